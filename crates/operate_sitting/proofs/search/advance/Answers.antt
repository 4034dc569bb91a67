-- Each step leaves the invariant, or ends the search.
use Rattle.std.proofs.Common.{◌≡◌, ◌+◌, ◌-◌, ◌<◌, arith, sym, ◌∙◌, ap, subst}
use Rattle.operate_sitting.proofs.SearchLemmas.{SoFar, ended, goes_on, limit_met, meets, nothing_yet, stops}
use Rattle.operate_sitting.specs.declared.search.Found.{Found}
use Rattle.operate_sitting.specs.declared.search.SearchEnd.TheVariants as end
use Rattle.operate_sitting.specs.Search.{Searched}
use Rattle.operate_sitting.proofs.search.advance.Goals as goal

pub loop-left-init : goal.loop-left-init
loop-left-init g c =
    let none : 0 ≡ c.args.most - c.args.most = omega arith in
    record {
      search = subst (λ n. SoFar g.row.T.Denot g.T.Test.seen g.T.Test.is_met c.args.most c.args.test.now
          c.args.scout.now c.args.test.now c.args.scout.now n) none
          (nothing_yet g.row.T.Denot g.T.Test.seen g.T.Test.is_met c.args.most c.args.test.now c.args.scout.now);
      size = omega arith;
      most = omega arith;
    }

pub loop-left-preserved : goal.loop-left-preserved
loop-left-preserved g c =
    let most = c.loop-left.invariant.most in
    let before : c.args.most - c.loop-left.left < c.args.most = omega arith in
    let one_more : c.args.most - c.loop-left.left + 1 ≡ c.args.most - (c.loop-left.left - 1) = omega arith in
    record {
      search = subst (λ n. SoFar g.row.T.Denot g.T.Test.seen g.T.Test.is_met c.args.most c.args.test.now
          c.args.scout.now c.see.new.self c.step.new.scout n) one_more
          (goes_on g.row.T.Denot g.T.Test.seen g.T.Test.is_met c.args.most (c.args.most - c.loop-left.left)
          c.args.test.now c.args.scout.now c.loop-left.test c.see.new.self c.loop-left.scout c.step.new.scout before
          c.loop-left.invariant.search (sym c.step.ensures.stop ∙ c.in_default.is) c.step.ensures.state
          c.see.ensures.memory (sym c.see.ensures.met ∙ c.if-see.false));
      size = c.step.ensures.size ∙ c.loop-left.invariant.size;
      most = omega arith;
    }

pub returns-in-Some-clause-search : goal.returns-in-Some-clause-search
returns-in-Some-clause-search g c =
    let most = c.loop-left.invariant.most in
    let before : c.args.most - c.loop-left.left < c.args.most = omega arith in
    stops g.row.T.Denot g.T.Test.seen g.T.Test.is_met c.args.most (c.args.most - c.loop-left.left)
    c.args.test.now c.args.scout.now c.loop-left.test c.stopped.new.test c.loop-left.scout c.step.new.scout
    c.in-Some.stop before c.loop-left.invariant.search (sym c.step.ensures.stop ∙ c.in-Some.is) c.step.ensures.state
    c.stopped.ensures.memory
    ∙ ap (λ (f : Found). let done : Searched g.row.T.Denot = record {
      state = c.step.new.scout;
      memory = c.stopped.new.test;
      found = f;
    } in done) (sym c.stopped.ensures.found)

pub returns-then-see-clause-search : goal.returns-then-see-clause-search
returns-then-see-clause-search g c =
    let most = c.loop-left.invariant.most in
    let before : c.args.most - c.loop-left.left < c.args.most = omega arith in
    let one_more : c.args.most - c.loop-left.left + 1 ≡ c.args.most - (c.loop-left.left - 1) = omega arith in
    meets g.row.T.Denot g.T.Test.seen g.T.Test.is_met c.args.most (c.args.most - c.loop-left.left)
    c.args.test.now c.args.scout.now c.loop-left.test c.see.new.self c.loop-left.scout c.step.new.scout before
    c.loop-left.invariant.search (sym c.step.ensures.stop ∙ c.in_default.is) c.step.ensures.state
    c.see.ensures.memory (sym c.see.ensures.met ∙ c.if-see.true)
    ∙ ap (λ n. ended c.step.new.scout c.see.new.self n end.Met) one_more

pub returns-clause-search : goal.returns-clause-search
returns-clause-search g c =
    let all : c.args.most - c.loop-left.left ≡ c.args.most = omega arith in
    limit_met g.row.T.Denot g.T.Test.seen g.T.Test.is_met c.args.most c.args.test.now c.args.scout.now c.loop-left.test
    c.loop-left.scout
    (subst (λ n. SoFar g.row.T.Denot g.T.Test.seen g.T.Test.is_met c.args.most c.args.test.now c.args.scout.now
    c.loop-left.test c.loop-left.scout n) all c.loop-left.invariant.search)
