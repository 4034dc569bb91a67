-- The seats so far are newcomers, each with a part of the ledger.
use Rattle.std.proofs.Common.{◌≡◌, ◌+◌, ◌≤◌, vec_capacity, vec_len}
use Rattle.room_1401.specs.Seen.{newcomers}
use Rattle.room_1401.proofs.shared_room.fill_seats.Given as goal

abbrev pub invariant-loop-number : goal.invariant-loop-number
invariant-loop-number g l = record {
  seats : l.seats.items ≡ newcomers l.number;
  len : vec_len l.seats ≡ l.number;
  capacity : l.total ≤ vec_capacity l.seats;
  parts : l.whole.parts + l.number ≡ l.total;
  amount : l.whole.amount ≡ 0;
}
