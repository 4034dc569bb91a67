-- A room that carries out the run of a search comes to the machine to which the search came, and answers with its steps
-- and its stop.
use Rattle.std.proofs.Common.{◌≡◌, ℕ, ◌<◌, ◌≤◌, ◌&&◌, zero, suc, Bool, true, false, Option, None, Some}
use Rattle.std.proofs.Common.{refl, ◌∙◌, ap, arith}
use Rattle.std.proofs.lemmas.Bool.{le-leb}
use Rattle.std.specs.Prelude.{if◌then◌else◌, nat_le}
use Rattle.machine_tables.specs.declared.stop.Stop.{Stop}
use Rattle.cpu_1401.specs.Run.{Finished, most_steps, run_for, run_on}
use Rattle.cpu_1401.specs.Run.{one_more as one_more_of_run}
use Rattle.cpu_1401.specs.State.{State}
use Rattle.cpu_1401.specs.Fitting.{fitted_step}
use Rattle.cpu_1401.specs.CarryOut.{carry_out, refuse, run_answer}
use Rattle.machine_commands.specs.declared.answer.Refusal.TheVariants.{Limit}
use Rattle.operate_sitting.specs.RunOf.{answer_of, run_of, stop_of}
use Rattle.operate_sitting.specs.Search.{Searched, limit_of, met_at, one_more, search, search_on}
use Rattle.operate_sitting.proofs.LimitLemmas.{limit_is_one, limit_of_more, search_ends}

-- the end of the run that does what a search did
abbrev finished : {M : Type 0} → Searched M → Finished
finished done = record { state = done.state; steps = done.found.steps; stop = stop_of done.found.end }

-- A run from a step on, which had this stop and left this machine, does what a search did.
record IsRunOn (M : Type 0) (o : Option Stop) (t : State) (done : Searched M) : Type 0 where
  left : ℕ
  limit_is : limit_of done.found ≡ suc left
  run_is : run_on (record { state = t; stop = o }) (run_for left t) ≡ finished done

module _ (M : Type 0) (seen : M → State → M) (is_met : M → Bool) where
  -- the step was carried out
  met_or_more : (b : Bool) (m : M) (t : State) (rest : Searched M)
      → run_for (limit_of rest.found) t ≡ finished rest
      → IsRunOn M None t (if b then met_at m t else one_more rest)
  unfolding run_for
  met_or_more true m t rest run = record { left = 0; limit_is = omega arith; run_is = refl }
  met_or_more false m t rest run = record {
    left = limit_of rest.found;
    limit_is = omega (arith, limit_of_more rest.found.steps rest.found.end);
    run_is = ap one_more_of_run run;
  }

  on : (o : Option Stop) (m : M) (t : State) (rest : Searched M)
      → run_for (limit_of rest.found) t ≡ finished rest
      → IsRunOn M o t (search_on seen is_met m (record { state = t; stop = o }) rest)
  on None m t rest run = met_or_more (is_met (seen m t)) (seen m t) t rest run
  on (Some why) m t rest run = record { left = 0; limit_is = limit_is_one why ∙ omega arith; run_is = refl }

  -- the run that does what a search did
  run_of_search : (limit : ℕ) (m : M) (s : State)
      → run_for (limit_of (search seen is_met limit m s).found) s ≡ finished (search seen is_met limit m s)
  unfolding search run_for
  run_of_search zero m s = refl
  run_of_search (suc limit) m s =
      let t = (fitted_step s).state in
      let is_run =
      on (fitted_step s).stop m t (search seen is_met limit (seen m t) t) (run_of_search limit (seen m t) t) in
      ap (λ k. run_for k s) is_run.limit_is ∙ is_run.run_is

  -- the run is carried out at a room, and is answered with the steps and the stop of the search
  pub run_of_found : (limit : ℕ) (m : M) (s : State) → 0 < limit → limit ≤ most_steps
      → (let done = search seen is_met limit m s in carry_out s (run_of done.found)
      ≡ record { state = done.state; answer = answer_of done.found done.state })
  unfolding carry_out
  run_of_found limit m s some most =
      let done = search seen is_met limit m s in
      let ends = search_ends M seen is_met limit m s in
      let least : nat_le 1 (limit_of done.found) ≡ true = le-leb 1 (limit_of done.found) (ends.some some) in
      let fits : nat_le (limit_of done.found) most_steps ≡ true =
      le-leb (limit_of done.found) most_steps (omega (arith, ends.most)) in
      let run = run_answer (run_for (limit_of done.found) s) in
      ap (λ (b : Bool). if b && nat_le (limit_of done.found) most_steps then run else refuse Limit s) least
      ∙ ap (λ (b : Bool). if b then run else refuse Limit s) fits
      ∙ ap run_answer (run_of_search limit m s)
