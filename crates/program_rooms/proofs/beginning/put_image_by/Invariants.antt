-- The commands so far were given by this seat, and with those that are left they load the image.
use Rattle.std.proofs.Common.{◌≡◌, ◌++◌}
use Rattle.machine_image.specs.Loading.{load_commands}
use Rattle.program_rooms.specs.Beginning.{GaveAll}
use Rattle.program_rooms.proofs.beginning.put_image_by.Given as goal

abbrev pub invariant-loop-command : goal.invariant-loop-command
invariant-loop-command g l = record {
  can : (goal.iterator-loop-command g).can_next l.command-iterator;
  ends : (goal.iterator-loop-command g).is_finite l.command-iterator;
  number : l.seat.number ≡ l.fn.seat.number;
  all : l.yielded ++ l.command-iterator ≡ load_commands l.image;
  gave : GaveAll g.J.RoomId.size l.yielded l.fn.seat l.seat;
}
