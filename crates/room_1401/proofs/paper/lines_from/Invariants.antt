-- The lines so far are those from the index on.
use Rattle.std.proofs.Common.{◌≡◌, drop, length, take}
use Rattle.room_1401.specs.Paper.{window_lines}
use Rattle.room_1401.proofs.paper.lines_from.Given as goal

abbrev pub invariant-loop-i : goal.invariant-loop-i
invariant-loop-i l = record {
  lines : take l.i l.lines ≡ take l.i (drop l.at l.devices.paper);
  room : length l.lines ≡ window_lines;
}
