-- None of the lines so far would enter a phase.
use Rattle.std.proofs.Common.{◌≡◌, ◌+◌, drop}
use Rattle.autocoder_warnings.specs.Overlap.{entry_from}
use Rattle.autocoder_warnings.proofs.overlap.entry_from.Given as goal

abbrev pub invariant-loop-i : goal.invariant-loop-i
invariant-loop-i l = record {
  at : l.at ≡ l.number + l.i;
  entry : entry_from l.at (drop l.i l.lines) ≡ entry_from l.number l.lines;
}
