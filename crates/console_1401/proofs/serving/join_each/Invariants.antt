-- There is room for a seat of each thread.
use Rattle.std.proofs.Common.{◌≡◌, ◌+◌, ◌≤◌, length, vec_capacity, vec_len}
use Rattle.console_1401.proofs.serving.join_each.Given as goal

abbrev pub invariant-loop-thread : goal.invariant-loop-thread
invariant-loop-thread g l = record {
  len : vec_len l.back ≡ vec_len l.initial.back + length l.yielded;
  capacity : vec_capacity l.initial.back ≤ vec_capacity l.back;
}
