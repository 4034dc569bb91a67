-- The columns so far, and what of the operands is left.
use Rattle.std.proofs.Common.{◌≡◌, ◌+◌, false, drop}
use Rattle.autocoder_warnings.specs.Loss.{operands_len}
use Rattle.autocoder_warnings.proofs.loss.operands_len.Given as goal

abbrev pub invariant-loop-i : goal.invariant-loop-i
invariant-loop-i l = l.i + operands_len l.is_quoted (drop l.i l.columns) ≡ operands_len false l.columns
