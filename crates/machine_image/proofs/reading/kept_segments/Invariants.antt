-- The segments so far and those left are all.
use Rattle.std.proofs.Common.{◌≡◌, ◌++◌, length}
use Rattle.machine_image.proofs.reading.kept_segments.Given as goal

abbrev pub invariant-loop-segment : goal.invariant-loop-segment
invariant-loop-segment l = l.segments.items ++ l.rest.segments ≡ l.lent.segments

abbrev pub decreases-loop-segment : goal.decreases-loop-segment
decreases-loop-segment l = length l.rest.segments
