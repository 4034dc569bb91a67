-- By what the step is.
use Rattle.std.proofs.Common.{None, Some, sym, ◌∙◌}
use Rattle.machine_tapes.specs.Tapes.{unit_of}
use Rattle.machine_tapes.specs.Transfer.{work_at}
use Rattle.job_steps.proofs.TapeLemmas.{branch_stops, step_stops, work_stops}
use Rattle.job_steps.proofs.taped.taped_stop_reason.Goals as goal

pub returns-then-takes_file_branch-clause-stop : goal.returns-then-takes_file_branch-clause-stop
returns-then-takes_file_branch-clause-stop c =
    branch_stops c.args.taped.now (sym c.takes_file_branch.ensures ∙ c.if-takes_file_branch.true)

pub returns-in-Some-clause-stop : goal.returns-in-Some-clause-stop
returns-in-Some-clause-stop c =
    let t = c.args.taped.now in
    let this = c.in-Some.this in
    rw c.unit.ensures at c.work_reason.ensures.stop
    ∙ sym (step_stops t (Some this) (sym c.takes_file_branch.ensures ∙ c.if-takes_file_branch.false) c.in-Some.ensures.value
    ∙ work_stops this t (work_at this t.machine (unit_of t.tapes this.unit.number)))

pub returns-in-None-clause-stop : goal.returns-in-None-clause-stop
returns-in-None-clause-stop c =
    let t = c.args.taped.now in
    c.stop_reason.ensures.stop
    ∙ sym (step_stops t None (sym c.takes_file_branch.ensures ∙ c.if-takes_file_branch.false) c.in-None.ensures.value)
