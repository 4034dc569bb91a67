-- One place more.
use Rattle.std.proofs.Common.{arith, ◌∙◌}
use Rattle.std.proofs.lemmas.List.{length_push}
use Rattle.serving_room.proofs.PlacesLemmas.{free_more}
use Rattle.serving_room.proofs.desk.place_each.Goals as goal

pub loop-seat-preserved : goal.loop-seat-preserved
loop-seat-preserved g c =
    let so_far = c.loop-seat.yielded in
    let seat = c.in-Some.seat in
    let i = c.loop-seat.invariant in
    let pushed = c.push_reserved.ensures in
    record {
      len = omega (arith, i.len, pushed.len, length_push so_far seat);
      capacity = omega (arith, i.capacity, pushed.capacity);
      items = pushed.items ∙ free_more c.loop-seat.places.items so_far c.new.result seat i.items c.new.ensures;
    }
