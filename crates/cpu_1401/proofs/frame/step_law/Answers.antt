-- The walks over all operations.
use Rattle.cpu_1401.proofs.FittedFrameLemmas.{fitted_step_framed}
use Rattle.cpu_1401.proofs.FittedUseLemmas.{fitted_step_uses}
use Rattle.cpu_1401.proofs.frame.step_law.Goals as goal

pub returns : goal.returns
returns c = record { uses = fitted_step_uses; in_frame = fitted_step_framed }
