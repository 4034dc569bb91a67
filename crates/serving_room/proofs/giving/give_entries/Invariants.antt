-- All seats are there, and have given the commands so far.
use Rattle.std.proofs.Common.{take}
use Rattle.console_1401.specs.Served.{AreAllSeats}
use Rattle.serving_room.specs.Giving.{GiveAll}
use Rattle.serving_room.proofs.giving.give_entries.Given as goal

abbrev pub invariant-loop-entry : goal.invariant-loop-entry
invariant-loop-entry g l = record {
  seats : AreAllSeats g.J.RoomId.seats l.seats.items;
  given : GiveAll g.J.RoomId.size (take l.entry-index l.entries) l.fn.seats.items l.seats.items;
}
