-- Memory may be refused for any reels.
use Rattle.program_run.proofs.ReelLemmas.{memory_unmounted}
use Rattle.program_run.proofs.reels.read_reels.Goals as goal

pub returns-in_default-clause-fault : goal.returns-in_default-clause-fault
returns-in_default-clause-fault g c = memory_unmounted c.args.reels.now
