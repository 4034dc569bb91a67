-- The columns so far are the characters of the text so far, and the others are blank.
use Rattle.std.proofs.Common.{◌≡◌, ◌≤◌, length, take, drop, map, replicate, Some}
use Rattle.machine_notation.specs.Characters.{chars_of}
use Rattle.operate_program.proofs.commands.read_card.Given as goal

abbrev pub invariant-loop-i : goal.invariant-loop-i
invariant-loop-i l = record {
  so_far : chars_of (take l.i l.text) ≡ map Some (take l.i l.columns);
  blank : drop l.i l.columns ≡ drop l.i (replicate 80 0);
  few : l.i ≤ 80;
  room : length l.columns ≡ 80;
}
