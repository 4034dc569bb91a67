-- Steps until the machine stops (own).
use Rattle.std.specs.Prelude.{ℕ, ◌+◌, zero, suc, option_map, unwrap_or}
use Rattle.machine_tables.specs.declared.stop.Stop.{Stop}
use Rattle.machine_tables.specs.declared.stop.Stop.TheVariants as stop
use Rattle.cpu_1401.specs.Fitting.{fitted_step}
use Rattle.cpu_1401.specs.State.{State}
use Rattle.cpu_1401.specs.Step.{step}
use Rattle.cpu_1401.specs.Stepped.{Stepped}

-- how many instructions a run carries out at most
abbrev pub most_steps : ℕ
most_steps = 1000000

-- how a run ends: the machine, how many instructions were carried out, and why it ends
pub record Finished : Type 0 where
  pub state : State
  pub steps : ℕ
  pub stop : Stop

-- one instruction more was carried out
abbrev pub one_more : Finished → Finished
one_more run = record run { steps = run.steps + 1 }

-- how many instructions a step that stops the machine has carried out: a halt is carried out, and nothing else is
abbrev pub carried_out_by : Stop → ℕ
carried_out_by stop.Halt = 1
carried_out_by stop.Limit = 0
carried_out_by stop.Reader = 0
carried_out_by stop.Forms = 0
carried_out_by stop.Stacker = 0
carried_out_by stop.NoMark = 0
carried_out_by stop.OpCode = 0
carried_out_by stop.Length = 0
carried_out_by stop.Address = 0
carried_out_by stop.Overlap = 0
carried_out_by stop.Carriage = 0
carried_out_by stop.NotFitted = 0
carried_out_by stop.DChar = 0
carried_out_by stop.Tape = 0

-- a run that ends with a step, which stops the machine
abbrev pub ended_by : State → Stop → Finished
ended_by s why = record { state = s; steps = carried_out_by why; stop = why }

-- a run from a step on: it ends with the step's stop, if there is one, and else the rest follows
abbrev pub run_on : Stepped → Finished → Finished
run_on done rest = unwrap_or (option_map (ended_by done.state) done.stop) (one_more rest)

-- steps until the first stop, or until the limit
unfoldable pub run_for : ℕ → State → Finished
run_for zero s = record { state = s; steps = 0; stop = stop.Limit }
run_for (suc limit) s = run_on (fitted_step s) (run_for limit (fitted_step s).state)

-- the same of a machine without features
unfoldable pub plain_run_for : ℕ → State → Finished
plain_run_for zero s = record { state = s; steps = 0; stop = stop.Limit }
plain_run_for (suc limit) s = run_on (step s) (plain_run_for limit (step s).state)
