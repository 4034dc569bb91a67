-- The place of a number is one less from the first, and keeps its number.
use Rattle.std.proofs.Common.{◌≡◌, IfSome, ℕ, ◌-◌, ◌<◌, arith, ap, length, subst, ◌∙◌}
use Rattle.serving_room.specs.Places.{DeskView, PlaceView, place_at, without_seat}
use Rattle.serving_room.proofs.PlacesLemmas.{changed, indexed_number, length_places, numbers_stay, place_read}
use Rattle.serving_room.proofs.desk.Desk.take_seat.Goals as goal

pub index_mut-requires : goal.index_mut-requires
index_mut-requires g c =
    omega (
      arith,
      c.requires,
      c.from.ensures,
      c.self.invariant.1,
      length_places g.J.RoomId.seats c.self.inside.places.items c.self.invariant.0,
    )

pub invariant_of-self : goal.invariant_of-self
invariant_of-self g c = (
  numbers_stay c.self.inside.places.items (c.from.result - 1) c.take_seat.new.self c.index_mut.result.now
      (ap (λ (place : PlaceView). place.number) c.take_seat.ensures.taken
      ∙ ap (λ (place : PlaceView). place.number) c.index_mut.ensures.value)
      ∙ c.self.invariant.0,
  c.self.invariant.1,
  c.self.invariant.2,
  c.self.invariant.3,
)

pub returns-clause-seat : goal.returns-clause-seat
returns-clause-seat g c =
    let places = c.self.inside.places.items in
    let inside : c.from.result - 1 < length places =
    omega (arith, c.requires, c.from.ensures, length_places g.J.RoomId.seats places c.self.invariant.0) in
    c.take_seat.ensures.seat ∙ ap (λ (place : PlaceView). place.seat)
    (place_read places c.from.result c.index_mut.result.now inside c.index_mut.ensures.value)
    ∙ ap (λ of. (place_at of places).seat) c.from.ensures
    ∙ ap (λ (desk : DeskView). (place_at c.args.number desk.places).seat) c.self.view_is

pub returns-clause-taken : goal.returns-clause-taken
returns-clause-taken g c =
    let places = c.self.inside.places.items in
    changed places c.self.inside.fault c.self.inside.is_closing c.args.number c.from.result without_seat c.index_mut.result.now
    c.take_seat.new.self c.args.self.now c.self.view_is c.from.ensures
    (omega (arith, c.requires, c.from.ensures, length_places g.J.RoomId.seats places c.self.invariant.0))
    c.index_mut.ensures.value c.take_seat.ensures.taken

pub returns-clause-number : goal.returns-clause-number
returns-clause-number g c =
    let less : c.from.result - 1 < g.J.RoomId.seats = omega (arith, c.requires, c.from.ensures) in
    let number =
    indexed_number g.J.RoomId.seats c.self.inside.places.items (c.from.result - 1) c.index_mut.result.now
    c.self.invariant.0 less c.index_mut.ensures.value in
    let same : c.index_mut.result.now.number ≡ c.args.number = omega (arith, number, c.requires, c.from.ensures) in
    subst (λ (wanted : ℕ). IfSome c.take_seat.result (λ seat. seat.number ≡ wanted)) same c.take_seat.ensures.number
