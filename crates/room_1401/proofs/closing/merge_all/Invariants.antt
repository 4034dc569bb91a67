-- The parts and the amounts so far are those of the seats that came.
use Rattle.std.proofs.Common.{◌≡◌, ◌≤◌, length}
use Rattle.room_1401.specs.Closing.{made_of}
use Rattle.room_1401.proofs.closing.merge_all.Given as goal

abbrev pub invariant-loop-seat : goal.invariant-loop-seat
invariant-loop-seat g l = record {
  parts : l.all.parts ≡ length l.yielded;
  bound : l.all.parts ≤ g.J.Ledger.parts;
  amount : l.all.amount ≡ made_of l.yielded;
}
