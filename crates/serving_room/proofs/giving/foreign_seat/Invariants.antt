-- No entry before this one is of a foreign seat.
use Rattle.std.proofs.Common.{◌≡◌, drop}
use Rattle.serving_room.specs.Giving.{foreign_in}
use Rattle.serving_room.proofs.giving.foreign_seat.Given as goal

abbrev pub invariant-loop-entry : goal.invariant-loop-entry
invariant-loop-entry l = foreign_in l.least l.most (drop l.entry-index l.entries) ≡ foreign_in l.least l.most l.entries
