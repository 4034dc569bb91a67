-- What became of the job is what became of the lent one.
use Rattle.program_run.proofs.EndLemmas.{fails, halts, has_halted, reports, tells}
use Rattle.program_run.proofs.running.run_job.Goals as goal

pub returns-clause-halted : goal.returns-clause-halted
returns-clause-halted g c =
    has_halted c.args.job _ _ c.run_lent.result c.run_lent.ensures.ran

pub returns-clause-stopped : goal.returns-clause-stopped
returns-clause-stopped g c =
    reports c.args.job _ _ c.run_lent.result c.run_lent.ensures.ran

pub returns-clause-fault : goal.returns-clause-fault
returns-clause-fault g c =
    fails c.args.job _ _ c.run_lent.result c.run_lent.ensures.ran

pub returns-clause-ended : goal.returns-clause-ended
returns-clause-ended g c =
    halts c.args.job _ _ c.run_lent.result c.run_lent.ensures.ran

pub returns-clause-told : goal.returns-clause-told
returns-clause-told g c =
    tells c.args.job _ _ c.run_lent.result c.run_lent.ensures.ran
