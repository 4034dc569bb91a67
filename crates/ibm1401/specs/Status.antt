-- How a run of the program ends (own).
use Rattle.std.specs.Prelude.{ℕ, ⊤, Result, Ok, Err}
use Rattle.program_convert.specs.declared.fault.AssembleFault.{AssembleFault}
use Rattle.program_convert.specs.declared.fault.AssembleFault.TheVariants as assemble
use Rattle.program_convert.specs.declared.reel_fault.ReelFault.{ReelFault}
use Rattle.program_convert.specs.declared.reel_fault.ReelFault.TheVariants as reel
use Rattle.program_run.specs.declared.fault.RunFault.{RunFault}
use Rattle.program_run.specs.declared.fault.RunFault.TheVariants as job
use Rattle.ibm1401.specs.declared.fault.Fault.{Fault}
use Rattle.ibm1401.specs.declared.fault.Fault.TheVariants as fault

-- the status after a fault of `assemble` or `disassemble`: 2 if two of the names lead to one file, else 1
abbrev pub assemble_status : AssembleFault → ℕ
assemble_status assemble.Size = 1
assemble_status (assemble.Unread name) = 1
assemble_status (assemble.Source why) = 1
assemble_status (assemble.Faulty lines) = 1
assemble_status (assemble.Deck why) = 1
assemble_status (assemble.Unloaded why) = 1
assemble_status (assemble.File name why) = 1
assemble_status (assemble.Image why) = 1
assemble_status assemble.Memory = 1
assemble_status assemble.Output = 1
assemble_status (assemble.Unwritten name) = 1
assemble_status (assemble.OneFile first second) = 2

-- the status after a fault of `reel`
abbrev pub reel_status : ReelFault → ℕ
reel_status (reel.File name why) = 1
reel_status (reel.Reel why) = 1
reel_status (reel.Record number) = 1
reel_status reel.Full = 1
reel_status reel.Memory = 1
reel_status reel.Output = 1
reel_status (reel.Unwritten name) = 1
reel_status (reel.OneFile first second) = 2

-- the status after a fault of `run`
abbrev pub job_status : RunFault → ℕ
job_status job.Output = 1
job_status job.Size = 1
job_status (job.File name why) = 1
job_status (job.Unwritten name) = 1
job_status (job.OneFile first second) = 2
job_status (job.Deck name why) = 1
job_status (job.Unloaded why) = 1
job_status (job.Stopped ending) = 1
job_status (job.Source why) = 1
job_status (job.Image why) = 1
job_status (job.Reel name why) = 1
job_status (job.Exists name) = 1
job_status (job.Replaced name copy) = 1
job_status job.Memory = 1

-- the status after a fault: 2 for a command line that can't be read, or that names one file twice, else 1
abbrev pub status_of : Fault → ℕ
status_of fault.Text = 2
status_of (fault.Usage refusal) = 2
status_of fault.Output = 1
status_of fault.Memory = 1
status_of (fault.Assemble why) = assemble_status why
status_of (fault.Reel why) = reel_status why
status_of (fault.Run why) = job_status why
status_of (fault.Hopper name count) = 1
status_of (fault.Hold why) = 1
status_of (fault.Open why) = 1
status_of (fault.Operate why) = 1

-- the status that a run ends with
abbrev pub run_status : Result ⊤ Fault → ℕ
run_status (Ok _) = 0
run_status (Err why) = status_of why
