-- What a step leaves (own).
use Rattle.std.specs.Prelude.{Option, None, Some}
use Rattle.machine_tables.specs.declared.stop.Stop.{Stop}
use Rattle.cpu_1401.specs.State.{State}

-- what a step leaves: the machine, and why it stops, if it does
pub record Stepped : Type 0 where
  pub state : State
  pub stop : Option Stop

-- the step was carried out
abbrev pub step_to : State → Stepped
step_to s = record { state = s; stop = None }

-- the step can't be carried out, and the machine is as it was
abbrev pub stopped : Stop → State → Stepped
stopped why s = record { state = s; stop = Some why }
