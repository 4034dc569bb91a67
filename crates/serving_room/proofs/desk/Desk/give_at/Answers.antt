-- The lowest free place is that of a seat, and keeps its number.
use Rattle.std.proofs.Common.{◌-◌, arith, ap, ◌∙◌}
use Rattle.serving_room.specs.Places.{DeskView, PlaceView, given, lowest_free}
use Rattle.serving_room.proofs.PlacesLemmas.{changed, length_places, lowest_bound, numbers_stay}
use Rattle.serving_room.proofs.desk.Desk.give_at.Goals as goal

pub overflow_sub-from : goal.overflow_sub-from
overflow_sub-from g c =
    let bound =
    lowest_bound g.J.RoomId.seats c.self.inside.places.items c.args.number c.self.invariant.0
    (ap (λ (desk : DeskView). lowest_free desk.places) c.self.view_is ∙ c.requires) in
    omega (arith, bound, c.from.ensures)

pub index_mut-requires : goal.index_mut-requires
index_mut-requires g c =
    let bound =
    lowest_bound g.J.RoomId.seats c.self.inside.places.items c.args.number c.self.invariant.0
    (ap (λ (desk : DeskView). lowest_free desk.places) c.self.view_is ∙ c.requires) in
    omega (
      arith,
      bound,
      c.from.ensures,
      c.self.invariant.1,
      length_places g.J.RoomId.seats c.self.inside.places.items c.self.invariant.0,
    )

pub invariant_of-self : goal.invariant_of-self
invariant_of-self g c = (
  numbers_stay c.self.inside.places.items (c.from.result - 1) c.give.new.self c.index_mut.result.now
      (ap (λ (place : PlaceView). place.number) c.give.ensures
      ∙ ap (λ (place : PlaceView). place.number) c.index_mut.ensures.value)
      ∙ c.self.invariant.0,
  c.self.invariant.1,
  c.self.invariant.2,
  c.self.invariant.3,
)

pub returns-clause-number : goal.returns-clause-number
returns-clause-number g c =
    lowest_bound g.J.RoomId.seats c.self.inside.places.items c.args.number c.self.invariant.0
    (ap (λ (desk : DeskView). lowest_free desk.places) c.self.view_is ∙ c.requires)

pub returns-clause-given : goal.returns-clause-given
returns-clause-given g c =
    let places = c.self.inside.places.items in
    let bound =
    lowest_bound g.J.RoomId.seats c.self.inside.places.items c.args.number c.self.invariant.0
    (ap (λ (desk : DeskView). lowest_free desk.places) c.self.view_is ∙ c.requires) in
    changed places c.self.inside.fault c.self.inside.is_closing c.args.number c.from.result given c.index_mut.result.now
    c.give.new.self c.args.self.now c.self.view_is c.from.ensures
    (omega (arith, bound, c.from.ensures, length_places g.J.RoomId.seats places c.self.invariant.0))
    c.index_mut.ensures.value c.give.ensures
