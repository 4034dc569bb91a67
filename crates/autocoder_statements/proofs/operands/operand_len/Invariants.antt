-- The bytes so far, and what of the operand is left.
use Rattle.std.proofs.Common.{◌≡◌, ◌+◌, false, drop}
use Rattle.autocoder_statements.specs.Operands.{operand_len}
use Rattle.autocoder_statements.proofs.operands.operand_len.Given as goal

abbrev pub invariant-loop-i : goal.invariant-loop-i
invariant-loop-i l = l.i + operand_len l.is_quoted (drop l.i l.text) ≡ operand_len false l.text
