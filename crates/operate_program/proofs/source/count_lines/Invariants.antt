-- The lines so far, with those that are left, are all lines. Each has a byte at least.
use Rattle.std.proofs.Common.{◌≡◌, ◌+◌, ◌≤◌, length}
use Rattle.autocoder_statements.specs.SourceLine.{lines_of}
use Rattle.operate_program.proofs.source.count_lines.Given as goal

abbrev pub invariant-loop-beyond : goal.invariant-loop-beyond
invariant-loop-beyond l = record {
  lines : l.count + length (lines_of l.rest) ≡ length (lines_of l.source);
  bound : l.count + length l.rest ≤ length l.source;
}

abbrev pub decreases-loop-beyond : goal.decreases-loop-beyond
decreases-loop-beyond l = length l.rest
