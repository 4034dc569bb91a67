-- A search, step by step.
use Rattle.std.proofs.Common.{◌≡◌, ℕ, ◌+◌, ◌-◌, ◌<◌, suc, Bool, true, false, Option, None, Some}
use Rattle.std.proofs.Common.{sym, ◌∙◌, ap, arith}
use Rattle.std.specs.Prelude.{if◌then◌else◌}
use Rattle.machine_tables.specs.declared.stop.Stop.{Stop}
use Rattle.cpu_1401.specs.Run.{carried_out_by}
use Rattle.cpu_1401.specs.State.{State}
use Rattle.cpu_1401.specs.Fitting.{fitted_step}
use Rattle.operate_sitting.specs.declared.search.SearchEnd.{SearchEnd}
use Rattle.operate_sitting.specs.declared.search.SearchEnd.TheVariants as end
use Rattle.operate_sitting.specs.Search.{Searched, memory_at, met_at, met_or, one_more, search, search_on}

-- a search that has ended so
abbrev pub ended : {M : Type 0} → State → M → ℕ → SearchEnd → Searched M
ended s m steps why = record { state = s; memory = m; found = record { steps = steps; end = why } }

-- a search before which this many instructions were carried out
abbrev pub after_steps : {M : Type 0} → ℕ → Searched M → Searched M
after_steps steps rest = ended rest.state rest.memory (steps + rest.found.steps) rest.found.end

-- the same search, counted otherwise
counted : {M : Type 0} (rest : Searched M) (m n : ℕ) → m ≡ n
    → ended rest.state rest.memory m rest.found.end ≡ ended rest.state rest.memory n rest.found.end
counted rest m n e = ap (λ k. ended rest.state rest.memory k rest.found.end) e

-- The instructions so far were carried out and don't meet the test, and what is left of the search makes the whole.
pub record SoFar (M : Type 0) (seen : M → State → M) (is_met : M → Bool) (limit : ℕ) (m0 : M) (first : State) (m : M)
    (now : State) (steps : ℕ) : Type 0 where
  pub whole : search seen is_met limit m0 first ≡ after_steps steps (search seen is_met (limit - steps) m now)

module _ (M : Type 0) (seen : M → State → M) (is_met : M → Bool) where
  pub nothing_yet : (limit : ℕ) (m : M) (s : State) → SoFar M seen is_met limit m s m s 0
  nothing_yet limit m s =
      let all : limit - 0 ≡ limit = omega arith in
      let rest = search seen is_met limit m s in
      record {
        whole = sym (ap (λ k. after_steps 0 (search seen is_met k m s)) all
            ∙ counted rest (0 + rest.found.steps) rest.found.steps (omega arith));
      }

  -- the search that is left, by its first step
  left : (limit steps : ℕ) (m0 : M) (first : State) (m : M) (now : State) → steps < limit
      → SoFar M seen is_met limit m0 first m now steps
      → search seen is_met limit m0 first ≡ after_steps steps (search_on seen is_met m (fitted_step now)
      (search seen is_met (limit - (steps + 1)) (seen m (fitted_step now).state) (fitted_step now).state))
  unfolding search
  left limit steps m0 first m now h s =
      let one_left : limit - steps ≡ suc (limit - (steps + 1)) = omega arith in
      s.whole ∙ ap (λ k. after_steps steps (search seen is_met k m now)) one_left

  -- the step was carried out
  carried_out : (limit steps : ℕ) (m0 : M) (first : State) (m : M) (now next : State) → steps < limit
      → SoFar M seen is_met limit m0 first m now steps → (fitted_step now).stop ≡ None → next ≡ (fitted_step now).state
      → search seen is_met limit m0 first ≡ after_steps steps (met_or is_met (seen m next) next
      (search seen is_met (limit - (steps + 1)) (seen m next) next))
  carried_out limit steps m0 first m now next h s none e =
      let more : State → Searched M = λ t. search seen is_met (limit - (steps + 1)) (seen m t) t in
      let on : Option Stop → Searched M = λ o.
      search_on seen is_met m (record { state = (fitted_step now).state; stop = o }) (more (fitted_step now).state) in
      left limit steps m0 first m now h s
      ∙ ap (λ (o : Option Stop). after_steps steps (on o)) none
      ∙ ap (λ (t : State). after_steps steps (met_or is_met (seen m t) t (more t))) (sym e)

  -- one instruction more, which doesn't meet the test
  pub goes_on : (limit steps : ℕ) (m0 : M) (first : State) (m m' : M) (now next : State) → steps < limit
      → SoFar M seen is_met limit m0 first m now steps → (fitted_step now).stop ≡ None → next ≡ (fitted_step now).state
      → m' ≡ seen m next → is_met m' ≡ false → SoFar M seen is_met limit m0 first m' next (steps + 1)
  goes_on limit steps m0 first m m' now next h s none e saw not_met =
      let more : M → Searched M = λ m''. search seen is_met (limit - (steps + 1)) m'' next in
      record {
        whole =
            carried_out limit steps m0 first m now next h s none e
            ∙ ap (λ m''. after_steps steps (met_or is_met m'' next (more m''))) (sym saw)
            ∙ ap (λ (b : Bool). after_steps steps (if b then met_at m' next else one_more (more m'))) not_met
            ∙ counted (more m') (steps + ((more m').found.steps + 1)) (steps + 1 + (more m').found.steps) (omega arith);
      }

  -- one instruction more, which meets the test
  pub meets : (limit steps : ℕ) (m0 : M) (first : State) (m m' : M) (now next : State) → steps < limit
      → SoFar M seen is_met limit m0 first m now steps → (fitted_step now).stop ≡ None → next ≡ (fitted_step now).state
      → m' ≡ seen m next → is_met m' ≡ true
      → search seen is_met limit m0 first ≡ ended next m' (steps + 1) end.Met
  meets limit steps m0 first m m' now next h s none e saw met =
      let more : M → Searched M = λ m''. search seen is_met (limit - (steps + 1)) m'' next in
      carried_out limit steps m0 first m now next h s none e
      ∙ ap (λ m''. after_steps steps (met_or is_met m'' next (more m''))) (sym saw)
      ∙ ap (λ (b : Bool). after_steps steps (if b then met_at m' next else one_more (more m'))) met

  -- the step stops the machine
  pub stops : (limit steps : ℕ) (m0 : M) (first : State) (m m' : M) (now next : State) (why : Stop) → steps < limit
      → SoFar M seen is_met limit m0 first m now steps → (fitted_step now).stop ≡ Some why
      → next ≡ (fitted_step now).state
      → m' ≡ memory_at seen why m next
      → search seen is_met limit m0 first ≡ ended next m' (steps + carried_out_by why) (end.Stop why)
  stops limit steps m0 first m m' now next why h s some e saw =
      let rest = search seen is_met (limit - (steps + 1)) (seen m (fitted_step now).state) (fitted_step now).state in
      let on : State → Option Stop → Searched M = λ t o.
      search_on seen is_met m (record { state = t; stop = o }) rest in
      left limit steps m0 first m now h s
      ∙ ap (λ (o : Option Stop). after_steps steps (on (fitted_step now).state o)) some
      ∙ ap (λ (t : State). after_steps steps (on t (Some why))) (sym e)
      ∙ ap (λ m''. ended next m'' (steps + carried_out_by why) (end.Stop why)) (sym saw)

  -- no step is left
  pub limit_met : (limit : ℕ) (m0 : M) (first : State) (m : M) (now : State)
      → SoFar M seen is_met limit m0 first m now limit
      → search seen is_met limit m0 first ≡ ended now m limit end.Limit
  unfolding search
  limit_met limit m0 first m now s =
      let none_left : limit - limit ≡ 0 = omega arith in
      s.whole ∙ ap (λ k. after_steps limit (search seen is_met k m now)) none_left
      ∙ ap (λ k. ended now m k end.Limit) (omega arith)
