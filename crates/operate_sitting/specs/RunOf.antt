-- The command that does at a room what a search did at the scout, and its answer (own).
use Rattle.machine_tables.specs.declared.stop.Stop.{Stop}
use Rattle.machine_tables.specs.declared.stop.Stop.TheVariants as stop
use Rattle.cpu_1401.specs.State.{State}
use Rattle.machine_commands.specs.declared.answer.Answer.{Answer}
use Rattle.machine_commands.specs.declared.answer.Answer.TheVariants.{Ran}
use Rattle.machine_commands.specs.declared.command.Command.{Command}
use Rattle.machine_commands.specs.declared.command.Command.TheVariants.{Run}
use Rattle.operate_sitting.specs.declared.search.Found.{Found}
use Rattle.operate_sitting.specs.declared.search.SearchEnd.{SearchEnd}
use Rattle.operate_sitting.specs.declared.search.SearchEnd.TheVariants as end
use Rattle.operate_sitting.specs.Search.{limit_of}

-- why a run ends that does what a search did: the room knows no test
abbrev pub stop_of : SearchEnd → Stop
stop_of (end.Stop why) = why
stop_of end.Met = stop.Limit
stop_of end.Limit = stop.Limit

-- the run that does what a search did
abbrev pub run_of : Found → Command
run_of found = Run (limit_of found)

-- what it is answered, by the machine to which the search came
abbrev pub answer_of : Found → State → Answer
answer_of found s = Ran found.steps (stop_of found.end) s.i
