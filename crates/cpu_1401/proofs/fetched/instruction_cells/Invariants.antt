-- The cells so far are those of core.
use Rattle.std.proofs.Common.{◌≡◌, drop, length, take}
use Rattle.cpu_1401.proofs.fetched.instruction_cells.Given as goal

abbrev pub invariant-loop-i : goal.invariant-loop-i
invariant-loop-i l = record {
  cells : take l.i l.cells ≡ take l.i (drop l.at l.core);
  room : length l.cells ≡ 8;
}
