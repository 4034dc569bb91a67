-- It is named.
use Rattle.std.proofs.Common.{inr, refl}
use Rattle.program_run.proofs.outputs.unwritten_file.Goals as goal

pub returns-in-Ok : goal.returns-in-Ok
returns-in-Ok c = inr (c.in-Ok.name, refl, c.in-Ok.ensures.ok)
