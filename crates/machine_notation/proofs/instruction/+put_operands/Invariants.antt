use Rattle.std.proofs.Common.{length}
use Rattle.machine_notation.proofs.instruction.+put_operands.Given as goal

abbrev pub decreases-put_operands : goal.decreases-put_operands
decreases-put_operands l = length l.cells.now
