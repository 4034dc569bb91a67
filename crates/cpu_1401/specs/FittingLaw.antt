-- What features leave as it was (own).
use Rattle.std.specs.Prelude.{ℕ, ◌≡◌, ◌≢◌, ◌⊎◌, false, None, Some}
use Rattle.machine_tables.specs.Features.{no_features}
use Rattle.machine_tables.specs.declared.stop.Stop.{Stop}
use Rattle.machine_tables.specs.declared.stop.Stop.TheVariants.{Halt, Length, NotFitted}
use Rattle.cpu_1401.specs.Fitting.{fitted_step}
use Rattle.cpu_1401.specs.Run.{plain_run_for, run_for}
use Rattle.cpu_1401.specs.State.{State}
use Rattle.cpu_1401.specs.Step.{step}
use Rattle.cpu_1401.specs.Stepped.{Stepped}

-- whether a step was carried out: a halt is
abbrev pub IsCarriedOut : Stepped → Type 0
IsCarriedOut t = (t.stop ≡ None) ⊎ (t.stop ≡ Some Halt)

-- two steps are alike in all but the d-character that is kept
pub record IsAlike (t u : Stepped) : Type 0 where
  pub stop : t.stop ≡ u.stop
  pub state : record t.state { chained = u.state.chained } ≡ u.state

-- No step changes what the machine is fitted with. With nothing fitted a step, and a run, is that of a machine without
-- features. Whatever is fitted, what such a machine carries out is carried out alike, without the lengths in each part;
-- and only its stops NOTFITTED and LENGTH may become operations.
pub record FittingLaw : Type 0 where
  pub stays : (s : State) → (fitted_step s).state.features ≡ s.features
  pub plain : (s : State) → s.features ≡ no_features → fitted_step s ≡ step s
  pub plain_run : (limit : ℕ) (s : State) → s.features ≡ no_features → run_for limit s ≡ plain_run_for limit s
  pub carried_out : (s : State) → IsCarriedOut (step s) → IsAlike (fitted_step s) (step s)
  pub without_lengths : (s : State) → s.features.lengths ≡ false → IsCarriedOut (step s) → fitted_step s ≡ step s
  pub stops : (s : State) (why : Stop) → (step s).stop ≡ Some why → why ≢ NotFitted → why ≢ Length
      → fitted_step s ≡ step s
