-- One more is counted.
use Rattle.std.proofs.Common.{arith}
use Rattle.operate_sitting.proofs.AnyOfLemmas.{changed-more}
use Rattle.operate_answers.specs.Stops.{stop_counted}
use Rattle.operate_answers.specs.declared.stops.NumberedStop.{NumberedStop}
use Rattle.operate_answers.proofs.stops.count_each.Goals as goal

pub loop-stop-preserved : goal.loop-stop-preserved
loop-stop-preserved c =
    changed-more NumberedStop stop_counted c.args.stops.now c.loop-stop.stops c.loop-stop.stop-index
    c.stop-item.result c.count.new.stop (omega (arith, c.loop-stop-test.true, c.loop-stop.auto.stops))
    c.loop-stop.invariant c.count.ensures
