-- What is read, and what is left to read below it, are all lines; and so are their labels.
use Rattle.std.proofs.Common.{◌≡◌, ◌++◌, ◌<◌, ◌≤◌, ◌+◌, ◌-◌, ◌^◌, map, length, drop}
use Rattle.std.specs.Prelude.{fold}
use Rattle.autocoder_statements.specs.Context.{nothing_above, with_context, with_registers, registers_and, registers_of}
use Rattle.autocoder_statements.specs.Language.{line_in}
use Rattle.autocoder_statements.specs.SourceLine.{lines_of}
use Rattle.autocoder_statements.specs.declared.language.Language.TheVariants.{Ibm}
use Rattle.autocoder_symbols.proofs.reading.read_in_context.Given as goal

abbrev pub invariant-loop-start : goal.invariant-loop-start
invariant-loop-start l = record {
  language : l.lines.language ≡ Ibm;
  labels : l.lines.registers ≡ l.registers;
  source : l.lines.source ≡ l.source;
  lines : l.lines.lines
      ++ map (with_registers l.registers) (with_context l.context (map (line_in Ibm) (lines_of (drop l.start l.source))))
      ≡ map (with_registers l.registers) (with_context nothing_above (map (line_in Ibm) (lines_of l.source)));
  registers : fold registers_and l.found (with_context l.context (map (line_in Ibm) (lines_of (drop l.start l.source))))
      ≡ registers_of (with_context nothing_above (map (line_in Ibm) (lines_of l.source)));
  few : length l.lines.lines < 2 ^ 32;
  bound : l.start ≤ length l.source + 1;
}

abbrev pub decreases-loop-start : goal.decreases-loop-start
decreases-loop-start l = length l.source + 1 - l.start
