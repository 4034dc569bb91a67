-- One test more has seen the machine.
use Rattle.std.proofs.Common.{◌<◌, ◌||◌, Bool, List, [], ◌∷◌, length, take, ap, sym, ◌∙◌, arith}
use Rattle.std.proofs.Math.Bool.{or-false}
use Rattle.std.proofs.lemmas.List.{take_more_set}
use Rattle.std.proofs.lemmas.List.Folds.{list_any-append}
use Rattle.std.specs.List.{list_any}
use Rattle.operate_sitting.proofs.AnyOfLemmas.{changed-more}
use Rattle.operate_sitting.proofs.any_of.see_by_each.Goals as goal

pub loop-test-preserved : goal.loop-test-preserved
loop-test-preserved g c =
    let tests : List g.row.T.Denot = c.loop-test.tests in
    let i = c.loop-test.test-index in
    let new = c.see-meets.new.self in
    let so_far : List g.row.T.Denot = take i tests in
    let some : List g.row.T.Denot → Bool = λ ts. list_any (λ test. g.T.Test.is_met test) ts in
    let inside : i < length tests = omega (arith, c.loop-test-test.true, c.loop-test.auto.tests) in
    record {
      memory = changed-more g.row.T.Denot (λ test. g.T.Test.seen test c.args.machine.now) c.args.tests.now tests i
          c.test-item.result new (omega (arith, c.loop-test-test.true, c.loop-test.auto.tests))
          c.loop-test.invariant.memory c.see-meets.ensures.memory;
      met = ap (λ b. b || c.see-meets.result) c.loop-test.invariant.met
          ∙ ap (λ b. some so_far || b) (c.see-meets.ensures.met ∙ sym (or-false (g.T.Test.is_met new)))
          ∙ sym (list_any-append (λ test. g.T.Test.is_met test) so_far (new ∷ []))
          ∙ ap some (sym (take_more_set tests i new inside));
    }
