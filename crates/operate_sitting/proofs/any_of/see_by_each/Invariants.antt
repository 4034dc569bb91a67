-- The tests so far have seen the machine, and whether it meets one of them.
use Rattle.std.proofs.Common.{◌≡◌, ◌++◌, drop, map, take}
use Rattle.std.specs.List.{list_any}
use Rattle.operate_sitting.proofs.any_of.see_by_each.Given as goal

abbrev pub invariant-loop-test : goal.invariant-loop-test
invariant-loop-test g l = record {
  memory : l.tests
      ≡ map (λ test. g.T.Test.seen test l.machine) (take l.test-index l.fn.tests) ++ drop l.test-index l.fn.tests;
  met : l.is_met ≡ list_any (λ test. g.T.Test.is_met test) (take l.test-index l.tests);
}
