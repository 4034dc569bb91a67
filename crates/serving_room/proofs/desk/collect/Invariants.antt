-- The seat of each place so far.
use Rattle.std.proofs.Common.{◌≡◌, ◌≤◌, length, vec_capacity, vec_len}
use Rattle.console_1401.specs.Served.{numbers_of}
use Rattle.serving_room.specs.Places.{AreBack, numbers_in}
use Rattle.serving_room.proofs.desk.collect.Given as goal

abbrev pub invariant-loop-place : goal.invariant-loop-place
invariant-loop-place g l = record {
  len : vec_len l.back ≡ length l.yielded;
  capacity : vec_capacity l.initial.back ≤ vec_capacity l.back;
  numbers : numbers_of l.back.items ≡ numbers_in l.yielded;
  back : AreBack l.yielded l.back.items;
}
