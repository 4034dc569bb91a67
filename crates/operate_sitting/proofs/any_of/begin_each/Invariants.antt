-- The tests so far have seen the machine.
use Rattle.std.proofs.Common.{◌≡◌, ◌++◌, drop, map, take}
use Rattle.operate_sitting.proofs.any_of.begin_each.Given as goal

abbrev pub invariant-loop-test : goal.invariant-loop-test
invariant-loop-test g l =
    l.tests ≡ map (λ test. g.T.Test.begun test l.machine) (take l.test-index l.fn.tests) ++ drop l.test-index l.fn.tests
