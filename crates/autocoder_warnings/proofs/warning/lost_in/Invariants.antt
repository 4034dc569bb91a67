-- The warnings so far, with those of the lines that are left, are those of all lines.
use Rattle.std.proofs.Common.{◌≡◌, ◌+◌, ◌++◌, drop, length, map}
use Rattle.autocoder_statements.specs.SourceLine.{lines_of}
use Rattle.autocoder_warnings.specs.Loss.{loss_of}
use Rattle.autocoder_warnings.specs.Lost.{lost_from}
use Rattle.autocoder_warnings.proofs.warning.lost_in.Given as goal

abbrev pub invariant-loop-i : goal.invariant-loop-i
invariant-loop-i l = record {
  warned : l.warnings.items ++ lost_from (l.i + 1) (map loss_of (lines_of l.sources)) (drop l.i l.lines)
      ≡ lost_from 1 (map loss_of (lines_of l.source)) l.lines;
  left : length (drop l.i l.lines) ≡ length (lines_of l.sources);
}
