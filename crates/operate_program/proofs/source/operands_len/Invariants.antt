-- The bytes so far, and what of the operands is left.
use Rattle.std.proofs.Common.{◌≡◌, ◌+◌, false, drop}
use Rattle.operate_program.specs.Source.{operands_len}
use Rattle.operate_program.proofs.source.operands_len.Given as goal

abbrev pub invariant-loop-i : goal.invariant-loop-i
invariant-loop-i l = l.i + operands_len l.is_quoted (drop l.i l.text) ≡ operands_len false l.text
