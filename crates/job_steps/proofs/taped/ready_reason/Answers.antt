-- A tape mark needs nothing of the machine.
use Rattle.job_steps.proofs.taped.ready_reason.Goals as goal

pub returns-in-WriteMark-clause-so : goal.returns-in-WriteMark-clause-so
returns-in-WriteMark-clause-so c = c.mark_reason.ensures.so c.args.machine.now
