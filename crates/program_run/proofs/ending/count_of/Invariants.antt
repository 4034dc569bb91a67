-- Those counted so far and those that are left are all.
use Rattle.std.proofs.Common.{◌≡◌, ◌+◌, length}
use Rattle.program_run.proofs.ending.count_of.Given as goal

abbrev pub invariant-loop-beyond : goal.invariant-loop-beyond
invariant-loop-beyond l = l.count + length l.rest ≡ length l.records

abbrev pub decreases-loop-beyond : goal.decreases-loop-beyond
decreases-loop-beyond l = length l.rest
