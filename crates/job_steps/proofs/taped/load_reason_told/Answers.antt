-- What is reported is why the key can't load.
use Rattle.machine_tapes.specs.TapeLoading.{loaded_from, loading}
use Rattle.machine_tapes.specs.Tapes.{unit_of}
use Rattle.job_steps.specs.TapeReason.{IsTapeSo}
use Rattle.job_steps.proofs.ToldLemmas.{told_named, told_so}
use Rattle.job_steps.proofs.taped.load_reason_told.Goals as goal

pub returns-clause-stop : goal.returns-clause-stop
returns-clause-stop c = told_named c.args.stop c.load_reason-found.result c.told_of.result c.told_of.ensures

pub returns-clause-told : goal.returns-clause-told
returns-clause-told c =
    let t = c.args.taped.now in
    told_so (loaded_from c.args.number t).stop
    (IsTapeSo (loading c.args.number) t.machine (unit_of t.tapes c.args.number)) c.args.stop c.load_reason-found.result
    c.told_of.result c.load_reason-found.ensures.stop c.load_reason-found.ensures.so c.told_of.ensures
