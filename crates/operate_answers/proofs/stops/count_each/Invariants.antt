-- The breaks and watches so far are counted.
use Rattle.std.proofs.Common.{◌≡◌, ◌++◌, drop, map, take}
use Rattle.operate_answers.specs.Stops.{stop_counted}
use Rattle.operate_answers.proofs.stops.count_each.Given as goal

abbrev pub invariant-loop-stop : goal.invariant-loop-stop
invariant-loop-stop l =
    l.stops ≡ map stop_counted (take l.stop-index l.fn.stops) ++ drop l.stop-index l.fn.stops
