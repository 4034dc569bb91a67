-- How a job begins (own).
use Rattle.std.specs.Prelude.{◌≡◌, ℕ, []}
use Rattle.machine_tables.specs.declared.stop.Stop.{Stop}
use Rattle.machine_tapes.specs.declared.taped_machine.TapedMachine.{TapedMachine}
use Rattle.job_runner.specs.Unattended.{ended, unattended}
use Rattle.program_arguments.specs.declared.call.Start.{Start}
use Rattle.program_run.specs.RunDeck.{started_job}
use Rattle.program_run.specs.RunTrace.{started_trace}
use Rattle.program_run.specs.TraceText.{trace_text}

-- a machine that is started so goes on as the one after its key was pressed
pub record GoesOnAs (how : Start) (t after : TapedMachine) : Type 0 where
  pub job : (limit : ℕ) → started_job how limit t ≡ unattended limit after
  pub trace : (limit : ℕ) → started_trace how limit t ≡ trace_text limit after

-- or it is stopped before anything is carried out
pub record StopsAs (how : Start) (why : Stop) (t after : TapedMachine) : Type 0 where
  pub job : (limit : ℕ) → started_job how limit t ≡ ended 0 why after
  pub trace : (limit : ℕ) → started_trace how limit t ≡ []
