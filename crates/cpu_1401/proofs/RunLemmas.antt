-- A run, step by step.
use Rattle.std.proofs.Common.{◌≡◌, ℕ, ◌+◌, ◌-◌, ◌<◌, suc, Option, None, Some, sym, ◌∙◌, ap, arith}
use Rattle.machine_tables.specs.declared.stop.Stop.{Stop}
use Rattle.machine_tables.specs.declared.stop.Stop.TheVariants as stop
use Rattle.cpu_1401.specs.Fitting.{fitted_step}
use Rattle.cpu_1401.specs.Run.{Finished, one_more, carried_out_by, run_on, run_for}
use Rattle.cpu_1401.specs.State.{State}

-- a run before which this many instructions were carried out
abbrev pub after_steps : ℕ → Finished → Finished
after_steps steps run = record { state = run.state; steps = steps + run.steps; stop = run.stop }

-- The instructions so far were carried out, and what is left of the run makes the whole.
pub record SoFar (limit : ℕ) (first now : State) (steps : ℕ) : Type 0 where
  pub whole : run_for limit first ≡ after_steps steps (run_for (limit - steps) now)

-- the same run, counted otherwise
counted : (run : Finished) (m n : ℕ) → m ≡ n
    → (let x : Finished = record { state = run.state; steps = m; stop = run.stop } in x)
    ≡ record { state = run.state; steps = n; stop = run.stop }
counted run m n e = ap (λ k. let x : Finished = record { state = run.state; steps = k; stop = run.stop } in x) e

pub nothing_yet : (limit : ℕ) (first : State) → SoFar limit first first 0
nothing_yet limit first =
    let all : limit - 0 ≡ limit = omega arith in
    let none =
    counted (run_for limit first) (0 + (run_for limit first).steps) (run_for limit first).steps (omega arith) in
    record { whole = sym (ap (λ k. after_steps 0 (run_for k first)) all ∙ none) }

-- the run that is left, by its first step
left : (limit steps : ℕ) (first now : State) → steps < limit → SoFar limit first now steps
    → run_for limit first ≡ after_steps steps (run_on (fitted_step now) (run_for (limit - (steps + 1)) (fitted_step now).state))
unfolding run_for
left limit steps first now h s =
    let one_left : limit - steps ≡ suc (limit - (steps + 1)) = omega arith in
    s.whole ∙ ap (λ k. after_steps steps (run_for k now)) one_left

-- one instruction more
pub goes_on : (limit steps : ℕ) (first now next : State) → steps < limit → SoFar limit first now steps
    → (fitted_step now).stop ≡ None → next ≡ (fitted_step now).state → SoFar limit first next (steps + 1)
goes_on limit steps first now next h s none e =
    let more = run_for (limit - (steps + 1)) in
    let on : Option Stop → Finished = λ o.
    run_on (record { state = (fitted_step now).state; stop = o }) (more (fitted_step now).state) in
    let further = counted (more next) (steps + ((more next).steps + 1)) (steps + 1 + (more next).steps) (omega arith) in
    record {
      whole =
          left limit steps first now h s
          ∙ ap (λ (o : Option Stop). after_steps steps (on o)) none
          ∙ ap (λ (state : State). after_steps steps (one_more (more state))) (sym e)
          ∙ further;
    }

-- the step stops the machine
pub stops : (limit steps : ℕ) (first now next : State) (why : Stop) → steps < limit → SoFar limit first now steps
    → (fitted_step now).stop ≡ Some why → next ≡ (fitted_step now).state → run_for limit first
    ≡ record { state = next; steps = steps + carried_out_by why; stop = why }
stops limit steps first now next why h s some e =
    let rest = run_for (limit - (steps + 1)) (fitted_step now).state in
    let on : State → Option Stop → Finished = λ state o. run_on (record { state = state; stop = o }) rest in
    left limit steps first now h s
    ∙ ap (λ (o : Option Stop). after_steps steps (on (fitted_step now).state o)) some
    ∙ ap (λ (state : State). after_steps steps (on state (Some why))) (sym e)

-- no step is left
pub limit_met : (limit : ℕ) (first now : State) → SoFar limit first now limit → run_for limit first
    ≡ record { state = now; steps = limit; stop = stop.Limit }
unfolding run_for
limit_met limit first now s =
    let none_left : limit - limit ≡ 0 = omega arith in
    s.whole ∙ ap (λ k. after_steps limit (run_for k now)) none_left
    ∙ counted (run_for 0 now) (limit + 0) limit (omega arith)
