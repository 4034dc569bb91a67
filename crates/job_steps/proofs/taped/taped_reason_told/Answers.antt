-- What is reported is why the next step stops the machine.
use Rattle.machine_tapes.specs.TapedStep.{taped_step}
use Rattle.job_steps.specs.TapeReason.{IsTapedSo}
use Rattle.job_steps.proofs.ToldLemmas.{told_named, told_so}
use Rattle.job_steps.proofs.taped.taped_reason_told.Goals as goal

pub returns-clause-stop : goal.returns-clause-stop
returns-clause-stop c = told_named c.args.stop c.taped_stop_reason-found.result c.told_of.result c.told_of.ensures

pub returns-clause-told : goal.returns-clause-told
returns-clause-told c =
    told_so (taped_step c.args.taped.now).stop (IsTapedSo c.args.taped.now) c.args.stop c.taped_stop_reason-found.result
    c.told_of.result c.taped_stop_reason-found.ensures.stop c.taped_stop_reason-found.ensures.so c.told_of.ensures
