-- A feature claims the instruction.
use Rattle.std.proofs.Common.{◌∙◌, sym}
use Rattle.job_steps.proofs.ClaimedLemmas.{claimed_so, claimed_stops}
use Rattle.job_steps.proofs.stopping.stop_reason.Goals as goal

pub returns-in-Some-clause-stop : goal.returns-in-Some-clause-stop
returns-in-Some-clause-stop c =
    c.fitted_reason.ensures.stop
    ∙ claimed_stops c.args.machine.now c.in-Some.fitted (sym c.fitted_at.ensures ∙ c.in-Some.is)

pub returns-in-Some-clause-so : goal.returns-in-Some-clause-so
returns-in-Some-clause-so c =
    claimed_so c.args.machine.now c.in-Some.fitted c.fitted_reason.result (sym c.fitted_at.ensures ∙ c.in-Some.is)
    c.fitted_reason.ensures.so
