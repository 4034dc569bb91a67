-- The number goes up.
use Rattle.std.proofs.Common.{◌≤◌}
use Rattle.program_rooms.proofs.journal_names.last_number.Given as goal

abbrev pub invariant-loop-entry : goal.invariant-loop-entry
invariant-loop-entry g l = l.first ≤ l.last
