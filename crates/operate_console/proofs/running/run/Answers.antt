-- A run begins with the stops of the notebook, and leaves them there.
use Rattle.std.proofs.Common.{rules, is_err}
use Rattle.operate_console.specs.Line.{is_cut}
use Rattle.operate_console.specs.Run.{at_console, is_ran_met, is_refused}
use Rattle.operate_console.proofs.RunLemmas.{ran_as_far}
use Rattle.operate_console.proofs.running.run.Goals as goal

pub returns-in-Ok-clause-did : goal.returns-in-Ok-clause-did
returns-in-Ok-clause-did g c =
    ran_as_far c.args.asked.now.setting.manner.now.limit (is_refused c.in-Ok.ran)
    (is_cut (is_err c.end_run.result) c.end_run.new.notebook) (is_ran_met c.in-Ok.ran) c.args.asked.now.extent.reach
    (at_console c.args.sitting.now c.args.notebook.now) (at_console c.run_rounds-ran.new.sitting c.end_run.new.notebook)
    c.new-2.result c.run_rounds-ran.new.test.first c.new-2.ensures.until (search rules)
    c.in-Ok.ensures.did c.end_run.ensures.cut (search rules)
