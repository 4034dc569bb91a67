-- The commands that feed the cards so far were given by this seat.
use Rattle.std.proofs.Common.{◌≡◌, take}
use Rattle.program_rooms.specs.Beginning.{GaveAll, feed_commands}
use Rattle.program_rooms.proofs.beginning.feed_by.Given as goal

abbrev pub invariant-loop-card : goal.invariant-loop-card
invariant-loop-card g l = record {
  number : l.seat.number ≡ l.fn.seat.number;
  gave : GaveAll g.J.RoomId.size (feed_commands (take l.card-index l.cards)) l.fn.seat l.seat;
}
