-- The count is that of the numbers so far which have a seat.
use Rattle.std.proofs.Common.{◌≡◌, ◌≤◌}
use Rattle.room_1401.specs.Closing.{back_of}
use Rattle.room_1401.proofs.closing.count_back.Given as goal

abbrev pub invariant-loop-number : goal.invariant-loop-number
invariant-loop-number g l = (l.back ≡ back_of l.number l.seats) × (l.back ≤ l.number)
