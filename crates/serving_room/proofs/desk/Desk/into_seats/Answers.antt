-- There is room for the seat of each place.
use Rattle.std.proofs.Common.{arith}
use Rattle.serving_room.proofs.PlacesLemmas.{length_places}
use Rattle.serving_room.proofs.desk.Desk.into_seats.Goals as goal

pub collect-requires : goal.collect-requires
collect-requires g c =
    let all = length_places g.J.RoomId.seats c.self.inside.places.items c.self.invariant.0 in
    (c.self.invariant.2, omega (arith, c.self.invariant.3, all))
