-- What is read, and what is left to read, are all lines.
use Rattle.std.proofs.Common.{◌≡◌, ◌++◌, ◌<◌, ◌≤◌, ◌+◌, ◌-◌, ◌^◌, map, length, drop}
use Rattle.autocoder_statements.specs.SourceLine.{lines_of}
use Rattle.autocoder_statements.specs.Statement.{line_of}
use Rattle.autocoder_statements.specs.declared.language.Language.TheVariants.{Plain}
use Rattle.autocoder_symbols.proofs.reading.read_plain_lines.Given as goal

abbrev pub invariant-loop-start : goal.invariant-loop-start
invariant-loop-start l = record {
  language : l.lines.language ≡ Plain;
  source : l.lines.source ≡ l.source;
  lines : l.lines.lines ++ map line_of (lines_of (drop l.start l.source)) ≡ map line_of (lines_of l.source);
  few : length l.lines.lines < 2 ^ 32;
  bound : l.start ≤ length l.source + 1;
}

abbrev pub decreases-loop-start : goal.decreases-loop-start
decreases-loop-start l = length l.source + 1 - l.start
