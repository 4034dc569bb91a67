-- A free place for each seat so far.
use Rattle.std.proofs.Common.{◌≡◌, ◌≤◌, length, map, vec_capacity, vec_len}
use Rattle.serving_room.specs.Places.{free_place}
use Rattle.serving_room.proofs.desk.place_each.Given as goal

abbrev pub invariant-loop-seat : goal.invariant-loop-seat
invariant-loop-seat g l = record {
  len : vec_len l.places ≡ length l.yielded;
  capacity : vec_capacity l.initial.places ≤ vec_capacity l.places;
  items : l.places.items ≡ map free_place l.yielded;
}
