-- Steps until a machine with tape units stops (own).
use Rattle.std.specs.Prelude.{ℕ, ◌+◌, zero, suc, option_map, unwrap_or}
use Rattle.machine_tables.specs.declared.stop.Stop.{Stop}
use Rattle.machine_tables.specs.declared.stop.Stop.TheVariants as stop
use Rattle.cpu_1401.specs.Run.{Finished, carried_out_by}
use Rattle.machine_tapes.specs.TapedStep.{TapedStepped, taped_step}
use Rattle.machine_tapes.specs.Tapes.{Tapes}
use Rattle.machine_tapes.specs.declared.taped_machine.TapedMachine.{TapedMachine}

-- how a run ends: the machine and its tape units, how many instructions were carried out, and why it ends
pub record TapedFinished : Type 0 where
  pub taped : TapedMachine
  pub steps : ℕ
  pub stop : Stop

-- the end of a run of the machine alone, with these tape units
abbrev pub finished_with : Tapes → Finished → TapedFinished
finished_with tapes run = record {
  taped = record { machine = run.state; tapes = tapes };
  steps = run.steps;
  stop = run.stop;
}

-- one instruction more was carried out
abbrev pub one_more : TapedFinished → TapedFinished
one_more run = record run { steps = run.steps + 1 }

-- a run before which this many instructions were carried out
abbrev pub after_steps : ℕ → TapedFinished → TapedFinished
after_steps steps run = record run { steps = steps + run.steps }

-- a run that ends with a step, which stops the machine
abbrev pub ended_by : TapedMachine → Stop → TapedFinished
ended_by t why = record { taped = t; steps = carried_out_by why; stop = why }

-- a run from a step on: it ends with the step's stop, if there is one, and else the rest follows
abbrev pub run_on : TapedStepped → TapedFinished → TapedFinished
run_on done rest = unwrap_or (option_map (ended_by done.taped) done.stop) (one_more rest)

-- steps until the first stop, or until the limit
unfoldable pub taped_run_for : ℕ → TapedMachine → TapedFinished
taped_run_for zero t = record { taped = t; steps = 0; stop = stop.Limit }
taped_run_for (suc limit) t = run_on (taped_step t) (taped_run_for limit (taped_step t).taped)
