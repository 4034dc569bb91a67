-- What is reported is why the next step stops the machine.
use Rattle.cpu_1401.specs.Fitting.{fitted_step}
use Rattle.job_steps.proofs.ToldLemmas.{told_named, told_so}
use Rattle.job_steps.specs.Reason.{IsSo}
use Rattle.job_steps.proofs.stopping.reason_told.Goals as goal

pub returns-clause-stop : goal.returns-clause-stop
returns-clause-stop c = told_named c.args.stop c.stop_reason-found.result c.told_of.result c.told_of.ensures

pub returns-clause-told : goal.returns-clause-told
returns-clause-told c =
    told_so (fitted_step c.args.machine.now).stop (IsSo c.args.machine.now) c.args.stop c.stop_reason-found.result
    c.told_of.result c.stop_reason-found.ensures.stop c.stop_reason-found.ensures.so c.told_of.ensures
