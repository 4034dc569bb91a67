-- It is the reel of the file's text, or the file of this name isn't read.
use Rattle.program_run.proofs.ReelLemmas.{unread_reel}
use Rattle.program_run.proofs.reels.read_reel.Goals as goal

pub returns-in-Ok-read_tap-clause-reel : goal.returns-in-Ok-read_tap-clause-reel
returns-in-Ok-read_tap-clause-reel g c = (
  c.as_slice.result.now,
  rw c.as_slice.ensures.value c.in-Ok.ensures.given,
  c.in-Ok-read_tap.ensures.whole,
)

pub returns-clause-fault : goal.returns-clause-fault
returns-clause-fault g c = unread_reel c.args.name.now c.in-Err.fault c.in-Err.ensures.fault
