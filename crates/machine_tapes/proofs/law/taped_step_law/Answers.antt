-- The law follows from that of the machine's own steps.
use Rattle.machine_tapes.proofs.TapedFrameLemmas.{taped_step_laws}
use Rattle.machine_tapes.proofs.law.taped_step_law.Goals as goal

pub returns : goal.returns
returns c = taped_step_laws c.step_law.ensures
