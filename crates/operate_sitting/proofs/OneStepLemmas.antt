-- A run of one instruction is a step.
use Rattle.std.proofs.Common.{◌≡◌, ◌≢◌, ℕ, Option, None, Some, sym, ◌∙◌, ap, arith}
use Rattle.machine_tables.specs.declared.stop.Stop.{Stop}
use Rattle.machine_tables.specs.declared.stop.Stop.TheVariants as stop
use Rattle.cpu_1401.specs.Run.{Finished, carried_out_by, run_for, run_on}
use Rattle.cpu_1401.specs.State.{State}
use Rattle.cpu_1401.specs.Fitting.{fitted_step}

-- A step that had this stop and left this machine is what came of the run.
pub record IsStep (o : Option Stop) (t new : State) (result : Option Stop) : Type 0 where
  pub stop_is : result ≡ o
  pub state_is : new ≡ t

of_run : (o : Option Stop) (t new : State) (steps : ℕ) (why : Stop) (result : Option Stop)
    → run_on (record { state = t; stop = o }) (run_for 0 t) ≡ record { state = new; steps = steps; stop = why }
    → (why ≡ stop.Limit → steps ≡ 1) → (why ≡ stop.Limit → result ≡ None) → (why ≢ stop.Limit → result ≡ Some why)
    → IsStep o t new result
unfolding run_for
of_run None t new steps why result run exact none some = record {
  stop_is = none (sym (ap (λ (f : Finished). f.stop) run));
  state_is = sym (ap (λ (f : Finished). f.state) run);
}
of_run (Some was) t new steps why result run exact none some =
    let stop_is : was ≡ why = ap (λ (f : Finished). f.stop) run in
    let steps_is : carried_out_by was ≡ steps = ap (λ (f : Finished). f.steps) run in
    let no_limit : why ≢ stop.Limit = λ (e : why ≡ stop.Limit).
    let both : 0 ≡ 1 = sym (ap carried_out_by (stop_is ∙ e)) ∙ steps_is ∙ exact e in absurd (omega (arith, both)) in
    record {
      stop_is = some no_limit ∙ ap Some (sym stop_is);
      state_is = sym (ap (λ (f : Finished). f.state) run);
    }

-- so is a run of one from any machine
pub step_of_run : (s new : State) (steps : ℕ) (why : Stop) (result : Option Stop)
    → run_for 1 s ≡ record { state = new; steps = steps; stop = why } → (why ≡ stop.Limit → steps ≡ 1)
    → (why ≡ stop.Limit → result ≡ None) → (why ≢ stop.Limit → result ≡ Some why)
    → IsStep (fitted_step s).stop (fitted_step s).state new result
unfolding run_for
step_of_run s new steps why result run exact none some =
    of_run (fitted_step s).stop (fitted_step s).state new steps why result run exact none some
