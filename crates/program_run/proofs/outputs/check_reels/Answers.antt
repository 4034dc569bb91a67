-- The file of a reel that is left is one of those that a run writes.
use Rattle.std.proofs.Common.{inr}
use Rattle.program_run.proofs.FaultLemmas.{not_put_of, written_first}
use Rattle.program_run.proofs.outputs.check_reels.Goals as goal

pub returns-in-Err : goal.returns-in-Err
returns-in-Err g c =
    let is = c.in-Err.ensures in
    let there = written_first c.loop-rest.rest.now c.first-item.result is.0 c.in-len1-up.len_at_least c.first-item.is is.1 in
    not_put_of c.args.job.now is.0 c.in-Err.fault (inr (inr (inr (inr (c.loop-rest.invariant.written is.0 there))))) is.2
