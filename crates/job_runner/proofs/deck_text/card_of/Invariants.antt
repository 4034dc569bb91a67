-- The columns so far are the characters of the bytes so far, and the others are blank.
use Rattle.std.proofs.Common.{◌≡◌, ◌+◌, ◌≤◌, length, take, drop, map, replicate}
use Rattle.std.specs.List.{prefix_len}
use Rattle.job_runner.specs.DeckText.{code_of, has_char}
use Rattle.job_runner.proofs.deck_text.card_of.Given as goal

abbrev pub invariant-loop-i : goal.invariant-loop-i
invariant-loop-i l = record {
  filled : prefix_len has_char l.line ≡ l.i + prefix_len has_char (drop l.i l.line);
  so_far : take l.i l.columns ≡ map code_of (take l.i l.line);
  blank : drop l.i l.columns ≡ drop l.i (replicate 80 0);
  few : l.i ≤ 80;
  room : length l.columns ≡ 80;
}
