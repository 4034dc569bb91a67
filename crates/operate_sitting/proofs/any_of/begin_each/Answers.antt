-- One test more has seen the machine.
use Rattle.std.proofs.Common.{arith}
use Rattle.operate_sitting.proofs.AnyOfLemmas.{changed-more}
use Rattle.operate_sitting.proofs.any_of.begin_each.Goals as goal

pub loop-test-preserved : goal.loop-test-preserved
loop-test-preserved g c =
    changed-more g.row.T.Denot (λ test. g.T.Test.begun test c.args.machine.now) c.args.tests.now c.loop-test.tests
    c.loop-test.test-index c.test-item.result c.begin.new.self
    (omega (arith, c.loop-test-test.true, c.loop-test.auto.tests)) c.loop-test.invariant c.begin.ensures
