-- The columns so far are the characters so far, as they are read, and the others are blank.
use Rattle.std.proofs.Common.{◌≡◌, length, take, drop, map, replicate}
use Rattle.program_convert.specs.Parity.{read_as}
use Rattle.program_convert.proofs.decks.record_card.Given as goal

abbrev pub invariant-loop-i : goal.invariant-loop-i
invariant-loop-i l = record {
  so_far : take l.i l.columns ≡ map (read_as l.parity) (take l.i l.tape_record);
  blank : drop l.i l.columns ≡ drop l.i (replicate 80 0);
  room : length l.columns ≡ 80;
}
