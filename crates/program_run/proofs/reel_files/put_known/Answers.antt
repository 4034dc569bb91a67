-- Its name is that of the file that was read.
use Rattle.std.proofs.Common.{inl, inr, refl}
use Rattle.program_run.proofs.reel_files.put_known.Goals as goal

pub returns-in-Ok-put_beside : goal.returns-in-Ok-put_beside
returns-in-Ok-put_beside g c =
    inr (c.in-Ok-put_beside.beside, (c.in-Ok-from_str.owned, refl, c.in-Ok-from_str.ensures.ok))

pub returns-in-Err-Exists-put_beside : goal.returns-in-Err-Exists-put_beside
returns-in-Err-Exists-put_beside g c = inl (inr (c.in-Ok-from_str.owned, refl, c.in-Ok-from_str.ensures.ok))
