-- A number that no unit has is a unit without a reel.
use Rattle.job_steps.proofs.TapeLemmas.{unloaded_stops}
use Rattle.job_steps.proofs.taped.load_reason.Goals as goal

pub returns-then-not-has_unit-clause-stop : goal.returns-then-not-has_unit-clause-stop
returns-then-not-has_unit-clause-stop c =
    unloaded_stops c.args.number c.args.taped.now (c.has_unit.ensures.none c.if-not-has_unit.true)
