-- What follows the lines so far.
use Rattle.std.proofs.Common.{◌≡◌, drop}
use Rattle.autocoder_statements.specs.SourceLine.{lines_of}
use Rattle.operate_program.proofs.source.beyond_lines.Given as goal

abbrev pub invariant-loop-i : goal.invariant-loop-i
invariant-loop-i l = lines_of l.rest ≡ drop l.i (lines_of l.source)
