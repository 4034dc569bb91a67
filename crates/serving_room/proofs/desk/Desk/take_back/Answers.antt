-- The place of a number is one less from the first, and keeps its number.
use Rattle.std.proofs.Common.{◌-◌, arith, ap, ◌∙◌}
use Rattle.serving_room.specs.Places.{PlaceView, taken_back}
use Rattle.serving_room.proofs.PlacesLemmas.{changed, length_places, numbers_stay}
use Rattle.serving_room.proofs.desk.Desk.take_back.Goals as goal

pub index_mut-requires : goal.index_mut-requires
index_mut-requires g c =
    omega (
      arith,
      c.requires,
      c.from.ensures,
      c.self.invariant.1,
      length_places g.J.RoomId.seats c.self.inside.places.items c.self.invariant.0,
    )

pub invariant_of-self : goal.invariant_of-self
invariant_of-self g c = (
  numbers_stay c.self.inside.places.items (c.from.result - 1) c.take_back.new.self c.index_mut.result.now
      (ap (λ (place : PlaceView). place.number) c.take_back.ensures
      ∙ ap (λ (place : PlaceView). place.number) c.index_mut.ensures.value)
      ∙ c.self.invariant.0,
  c.self.invariant.1,
  c.self.invariant.2,
  c.self.invariant.3,
)

pub returns : goal.returns
returns g c =
    let places = c.self.inside.places.items in
    changed places c.self.inside.fault c.self.inside.is_closing c.args.number c.from.result taken_back c.index_mut.result.now
    c.take_back.new.self c.args.self.now c.self.view_is c.from.ensures
    (omega (arith, c.requires, c.from.ensures, length_places g.J.RoomId.seats places c.self.invariant.0))
    c.index_mut.ensures.value c.take_back.ensures
