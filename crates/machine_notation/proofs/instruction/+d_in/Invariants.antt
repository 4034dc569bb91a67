use Rattle.std.proofs.Common.{length}
use Rattle.machine_notation.proofs.instruction.+d_in.Given as goal

abbrev pub decreases-d_in : goal.decreases-d_in
decreases-d_in l = length l.beyond.now
