-- What was written so far shows the word marks of the print area.
use Rattle.std.proofs.Common.{◌≡◌, ℕ, ◌+◌, ◌<◌, length, get_or}
use Rattle.core_1401.specs.Storage.{cell_at}
use Rattle.cpu_1401.specs.CardsAndPrinter.{mark_char}
use Rattle.cpu_1401.proofs.io_request.marks_line.Given as goal

abbrev pub invariant-loop-i : goal.invariant-loop-i
invariant-loop-i l = record {
  len : length l.line ≡ 132;
  read : (k : ℕ) → k < l.i → get_or l.line k 0 ≡ mark_char (cell_at l.core (201 + k));
}
