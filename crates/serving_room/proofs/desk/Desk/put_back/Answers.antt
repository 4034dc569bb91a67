-- The place of a number is one less from the first, and keeps its number.
use Rattle.std.proofs.Common.{◌-◌, ◌<◌, arith, ap, ◌∙◌}
use Rattle.serving_room.specs.Places.{PlaceView, with_seat}
use Rattle.serving_room.proofs.PlacesLemmas.{changed, indexed_number, length_places, numbers_stay}
use Rattle.serving_room.proofs.desk.Desk.put_back.Goals as goal

pub index_mut-requires : goal.index_mut-requires
index_mut-requires g c =
    omega (
      arith,
      c.requires,
      c.from-at.ensures,
      c.number.ensures,
      c.self.invariant.1,
      length_places g.J.RoomId.seats c.self.inside.places.items c.self.invariant.0,
    )

pub invariant_of-self : goal.invariant_of-self
invariant_of-self g c = (
  numbers_stay c.self.inside.places.items (c.from-at.result - 1) c.put_back.new.self c.index_mut.result.now
      (ap (λ (place : PlaceView). place.number) c.put_back.ensures
      ∙ ap (λ (place : PlaceView). place.number) c.index_mut.ensures.value)
      ∙ c.self.invariant.0,
  c.self.invariant.1,
  c.self.invariant.2,
  c.self.invariant.3,
)

pub put_back-requires : goal.put_back-requires
put_back-requires g c =
    let less : c.from-at.result - 1 < g.J.RoomId.seats =
    omega (arith, c.requires, c.from-at.ensures, c.number.ensures) in
    let number =
    indexed_number g.J.RoomId.seats c.self.inside.places.items (c.from-at.result - 1) c.index_mut.result.now
    c.self.invariant.0 less c.index_mut.ensures.value in
    omega (arith, number, c.requires, c.from-at.ensures, c.number.ensures)

pub returns : goal.returns
returns g c =
    let places = c.self.inside.places.items in
    changed places c.self.inside.fault c.self.inside.is_closing c.args.seat.number c.from-at.result (with_seat c.args.seat) c.index_mut.result.now
    c.put_back.new.self c.args.self.now c.self.view_is (c.from-at.ensures ∙ c.number.ensures)
    (omega (
      arith,
      c.requires,
      c.from-at.ensures,
      c.number.ensures,
      length_places g.J.RoomId.seats places c.self.invariant.0,
    ))
    c.index_mut.ensures.value c.put_back.ensures
