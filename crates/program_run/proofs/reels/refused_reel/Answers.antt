-- It is named.
use Rattle.std.proofs.Common.{inr, refl}
use Rattle.program_run.proofs.reels.refused_reel.Goals as goal

pub returns-in_default-Ok : goal.returns-in_default-Ok
returns-in_default-Ok c = inr (inr (c.args.fault, (c.in_default-Ok.name, refl, c.in_default-Ok.ensures.ok)))
