-- What is put so far and what is left make the whole.
use Rattle.std.proofs.Common.{◌≡◌, ◌+◌, drop, length}
use Rattle.cpu_1401.specs.CardsAndPrinter.{with_chars_from}
use Rattle.cpu_1401.proofs.device_steps.put_chars.Given as goal

abbrev pub invariant-loop-i : goal.invariant-loop-i
invariant-loop-i l = record {
  whole : with_chars_from l.core (l.at + l.i) (drop l.i l.chars) ≡ with_chars_from l.initial.core l.at l.chars;
  size : length l.core ≡ length l.initial.core;
}
