-- What holds of each search holds of this one.
use Rattle.std.proofs.Common.{◌≡◌, ◌∙◌, ap, subst, sym}
use Rattle.operate_sitting.proofs.LimitLemmas.{Ends, search_ends, steps_within}
use Rattle.operate_sitting.specs.Search.{Searched, search}
use Rattle.operate_sitting.proofs.search.seek.Goals as goal

pub returns : goal.returns
returns g c =
    let seen = g.T.Test.seen in
    let is_met = g.T.Test.is_met in
    let begun = g.T.Test.begun c.args.test.now c.args.scout.now in
    let found = c.advance.result in
    let done : Searched g.row.T.Denot = record {
      state = c.advance.new.scout;
      memory = c.advance.new.test;
      found = found;
    } in
    let whole : search seen is_met c.args.most begun c.args.scout.now ≡ done =
    ap (λ m. search seen is_met c.args.most m c.args.scout.now) (sym c.begin.ensures) ∙ c.advance.ensures.search in
    let ends : Ends g.row.T.Denot seen is_met c.args.most begun c.args.scout.now done =
    subst (λ done. Ends g.row.T.Denot seen is_met c.args.most begun c.args.scout.now done) whole
    (search_ends g.row.T.Denot seen is_met c.args.most begun c.args.scout.now) in
    record {
      search = whole;
      first = ends.first;
      met = ends.met;
      limit = ends.limit_is;
      most = ends.most;
      some = ends.some;
      steps = steps_within found.steps found.end;
      size = c.advance.ensures.size;
    }
