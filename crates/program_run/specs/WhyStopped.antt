-- What is said of why a job stopped (own): what `job_steps` says of the machine that it left.
use Rattle.std.specs.Prelude.{◌⊎◌, ℕ, IsSome, Option, None}
use Rattle.machine_tables.specs.declared.stop.Stop.{Stop}
use Rattle.machine_tapes.specs.TapeLoading.{loaded_from, loading}
use Rattle.machine_tapes.specs.TapedStep.{taped_step}
use Rattle.machine_tapes.specs.Tapes.{unit_of}
use Rattle.machine_tapes.specs.declared.taped_machine.TapedMachine.{TapedMachine}
use Rattle.job_steps.specs.TapeReason.{IsTapeSo, IsTapedSo}
use Rattle.job_steps.specs.Told.{IsTold}
use Rattle.job_steps.specs.declared.reason.Reason.{Reason}
use Rattle.program_arguments.specs.declared.call.Start.{Start}
use Rattle.program_arguments.specs.declared.call.Start.TheVariants as start

-- what is said of the next step
abbrev pub IsToldOfStep : TapedMachine → Stop → Option Reason → Type 0
IsToldOfStep t why told = IsTold (taped_step t).stop (IsTapedSo t) why told

-- and of the key that loads from tape
abbrev pub IsToldOfKey : ℕ → TapedMachine → Stop → Option Reason → Type 0
IsToldOfKey unit t why told =
    IsTold (loaded_from unit t).stop (IsTapeSo (loading unit) t.machine (unit_of t.tapes unit)) why told

-- of a machine that was started so: if nothing is said of its next step, what is said of that key, if it was pressed
abbrev pub IsWhyStopped : Start → TapedMachine → Stop → Option Reason → Type 0
IsWhyStopped start.Entry t why told = IsToldOfStep t why told
IsWhyStopped start.LoadKey t why told = IsToldOfStep t why told
IsWhyStopped (start.LoadTape unit) t why told =
    (IsSome told × IsToldOfStep t why told) ⊎ (IsToldOfStep t why None × IsToldOfKey unit t why told)
