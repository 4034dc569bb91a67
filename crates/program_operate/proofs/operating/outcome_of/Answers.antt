-- It is what the end and the faults mean.
use Rattle.program_operate.proofs.operating.outcome_of.Goals as goal

pub returns : goal.returns
returns g c = c.outcome_at.ensures
