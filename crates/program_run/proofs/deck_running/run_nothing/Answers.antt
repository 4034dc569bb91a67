-- No step is carried out.
use Rattle.std.proofs.Common.{arith, sym, ◌∙◌}
use Rattle.job_runner.specs.Unattended.{taped_with_deck}
use Rattle.job_runner.proofs.JobLemmas.{no_step}
use Rattle.program_run.proofs.deck_running.run_nothing.Goals as goal

pub returns-in-Err-clause-left_off : goal.returns-in-Err-clause-left_off
returns-in-Err-clause-left_off g c =
    let off = c.in-Err.ensures.left_off in
    sym off.2 ∙ no_step off.0 (omega (arith, off.1)) (taped_with_deck c.args.deck.now c.args.taped.now)
