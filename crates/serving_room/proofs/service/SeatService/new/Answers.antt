-- A byte can count the seats, and counts all of them.
use Rattle.std.proofs.Common.{arith}
use Rattle.serving_room.proofs.PlacesLemmas.{length_seats}
use Rattle.serving_room.proofs.service.SeatService.new.Goals as goal

pub overflow_cast-count : goal.overflow_cast-count
overflow_cast-count g c =
    omega (
      arith,
      c.requires.count,
      c.len-count.ensures,
      length_seats g.J.RoomId.seats c.args.seats.items c.requires.seats,
    )

pub invariant_of-result : goal.invariant_of-result
invariant_of-result g c =
    omega (arith, c.len-count.ensures, length_seats g.J.RoomId.seats c.args.seats.items c.requires.seats)
