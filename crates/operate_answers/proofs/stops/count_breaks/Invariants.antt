-- The breaks so far were counted.
use Rattle.std.proofs.Common.{◌≡◌, ◌≤◌, ◌+◌, drop, length}
use Rattle.std.specs.List.{filter}
use Rattle.operate_answers.specs.Stops.{is_break}
use Rattle.operate_answers.proofs.stops.count_breaks.Given as goal

abbrev pub invariant-loop-stop : goal.invariant-loop-stop
invariant-loop-stop l = record {
  bound : l.count ≤ l.stop-index;
  breaks : l.count + length (filter is_break (drop l.stop-index l.stops)) ≡ length (filter is_break l.stops);
}
