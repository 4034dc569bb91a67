-- By whether the unit is ready.
use Rattle.std.proofs.Common.{◌∙◌}
use Rattle.job_steps.proofs.TapeLemmas.{ready_stops, unready_stops}
use Rattle.job_steps.proofs.taped.work_reason.Goals as goal

pub returns-then-drive-clause-stop : goal.returns-then-drive-clause-stop
returns-then-drive-clause-stop c =
    c.ready_reason.ensures.stop ∙ ready_stops c.args.this c.args.machine.now c.args.drive.now c.if-drive.true

pub returns-then-capacity-eq0-clause-stop : goal.returns-then-capacity-eq0-clause-stop
returns-then-capacity-eq0-clause-stop c = unready_stops c.args.this c.args.machine.now c.args.drive.now c.if-drive.false

pub returns-else-capacity-eq0-clause-stop : goal.returns-else-capacity-eq0-clause-stop
returns-else-capacity-eq0-clause-stop c = unready_stops c.args.this c.args.machine.now c.args.drive.now c.if-drive.false
