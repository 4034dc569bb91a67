-- What the end of a job is for the program (own).
use Rattle.std.specs.Prelude.{⊤, Result, Ok, Err}
use Rattle.machine_tables.specs.declared.stop.Stop.{Stop}
use Rattle.machine_tables.specs.declared.stop.Stop.TheVariants as stop
use Rattle.program_run.specs.declared.fault.RunFault.{RunFault}
use Rattle.program_run.specs.declared.fault.RunFault.TheVariants as fault
use Rattle.program_run.specs.declared.ending.Ending.{Ending}

-- a halt is no fault, and any other stop is one
abbrev pub outcome_after : Stop → Ending → Result ⊤ RunFault
outcome_after stop.Limit ending = Err (fault.Stopped ending)
outcome_after stop.Halt ending = Ok tt
outcome_after stop.Reader ending = Err (fault.Stopped ending)
outcome_after stop.Forms ending = Err (fault.Stopped ending)
outcome_after stop.Stacker ending = Err (fault.Stopped ending)
outcome_after stop.NoMark ending = Err (fault.Stopped ending)
outcome_after stop.OpCode ending = Err (fault.Stopped ending)
outcome_after stop.Length ending = Err (fault.Stopped ending)
outcome_after stop.Address ending = Err (fault.Stopped ending)
outcome_after stop.Overlap ending = Err (fault.Stopped ending)
outcome_after stop.Carriage ending = Err (fault.Stopped ending)
outcome_after stop.NotFitted ending = Err (fault.Stopped ending)
outcome_after stop.DChar ending = Err (fault.Stopped ending)
outcome_after stop.Tape ending = Err (fault.Stopped ending)

-- what the end of a job is for the program
abbrev pub job_outcome : Ending → Result ⊤ RunFault
job_outcome ending = outcome_after ending.report.stop ending
