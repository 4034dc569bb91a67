-- There is room for all seats when they are back.
use Rattle.std.proofs.Common.{arith, ap, ◌∙◌}
use Rattle.serving_room.specs.Places.{numbers_in}
use Rattle.serving_room.proofs.PlacesLemmas.{length_seats, numbers_free}
use Rattle.serving_room.proofs.desk.Desk.new.Goals as goal

pub invariant_of-result : goal.invariant_of-result
invariant_of-result g c =
    let back = c.in-Ok-Ok.ensures' in
    let all = length_seats g.J.RoomId.seats c.args.seats.items c.requires.seats in (
      ap numbers_in c.place_each.ensures ∙ numbers_free c.args.seats.items ∙ c.requires.seats,
      c.requires.count,
      back.items,
      omega (arith, back.capacity, c.len-total.ensures, all),
    )
