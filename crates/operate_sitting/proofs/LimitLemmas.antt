-- What holds of each search: which step is its last, and how many there are.
use Rattle.std.proofs.Common.{◌≡◌, ℕ, ◌+◌, ◌<◌, ◌≤◌, ◌==◌, zero, suc, Bool, true, false, Option, None, Some}
use Rattle.std.proofs.Common.{refl, sym, ◌∙◌, ap, arith}
use Rattle.std.specs.Prelude.{if◌then◌else◌}
use Rattle.machine_tables.specs.declared.stop.Stop.{Stop}
use Rattle.machine_tables.specs.declared.stop.Stop.TheVariants as stop
use Rattle.cpu_1401.specs.Run.{carried_out_by}
use Rattle.cpu_1401.specs.State.{State}
use Rattle.cpu_1401.specs.Fitting.{fitted_step}
use Rattle.operate_sitting.specs.declared.search.SearchEnd.{SearchEnd}
use Rattle.operate_sitting.specs.declared.search.SearchEnd.TheVariants as end
use Rattle.operate_sitting.specs.Search.{Searched, limit_by, limit_of, memory_after, met_at, one_more, search}
use Rattle.operate_sitting.specs.Search.{search_on}

-- a step carries out one instruction at most
one_at_most : (why : Stop) → carried_out_by why ≤ 1
one_at_most stop.Halt = omega arith
one_at_most stop.Limit = omega arith
one_at_most stop.Reader = omega arith
one_at_most stop.Forms = omega arith
one_at_most stop.Stacker = omega arith
one_at_most stop.NoMark = omega arith
one_at_most stop.OpCode = omega arith
one_at_most stop.Length = omega arith
one_at_most stop.Address = omega arith
one_at_most stop.Overlap = omega arith
one_at_most stop.Carriage = omega arith
one_at_most stop.NotFitted = omega arith
one_at_most stop.DChar = omega arith
one_at_most stop.Tape = omega arith

-- a step that stops the machine is a run of one
pub limit_is_one : (why : Stop) → limit_by (carried_out_by why) (end.Stop why) ≡ 1
limit_is_one stop.Halt = refl
limit_is_one stop.Limit = refl
limit_is_one stop.Reader = refl
limit_is_one stop.Forms = refl
limit_is_one stop.Stacker = refl
limit_is_one stop.NoMark = refl
limit_is_one stop.OpCode = refl
limit_is_one stop.Length = refl
limit_is_one stop.Address = refl
limit_is_one stop.Overlap = refl
limit_is_one stop.Carriage = refl
limit_is_one stop.NotFitted = refl
limit_is_one stop.DChar = refl
limit_is_one stop.Tape = refl

one_or_none : (b : Bool) (steps : ℕ) → (if b then steps + 1 + 1 else steps + 1) ≡ (if b then steps + 1 else steps) + 1
one_or_none true steps = refl
one_or_none false steps = refl

-- one step more is one more of the run
pub limit_of_more : (steps : ℕ) (why : SearchEnd) → limit_by (steps + 1) why ≡ limit_by steps why + 1
limit_of_more steps (end.Stop why) = one_or_none (carried_out_by why == 0) steps
limit_of_more steps end.Met = refl
limit_of_more steps end.Limit = refl

within_one : (b : Bool) (steps : ℕ) → steps ≤ (if b then steps + 1 else steps)
within_one true steps = omega arith
within_one false steps = omega arith

-- the run carries out those steps
pub steps_within : (steps : ℕ) (why : SearchEnd) → steps ≤ limit_by steps why
steps_within steps (end.Stop why) = within_one (carried_out_by why == 0) steps
steps_within steps end.Met = omega arith
steps_within steps end.Limit = omega arith

-- What holds of a search of at most this many steps that ended.
pub record Ends (M : Type 0) (seen : M → State → M) (is_met : M → Bool) (limit : ℕ) (m : M) (s : State)
    (done : Searched M) : Type 0 where
  pub first : (k : ℕ) → 0 < k → k < done.found.steps → is_met (memory_after seen k m s) ≡ false
  pub met : done.found.end ≡ end.Met → is_met done.memory ≡ true
  pub limit_is : done.found.end ≡ end.Limit → done.found.steps ≡ limit
  pub most : limit_of done.found ≤ limit
  pub some : 0 < limit → 0 < limit_of done.found

module _ (M : Type 0) (seen : M → State → M) (is_met : M → Bool) where
  -- the memory after the first step, and after one more than this many
  later : (k : ℕ) (m : M) (s : State)
      → memory_after seen (suc k) m s ≡ memory_after seen k (seen m (fitted_step s).state) (fitted_step s).state
  unfolding memory_after
  later k m s = refl

  none_after : (m : M) (s : State) → memory_after seen 0 m s ≡ m
  unfolding memory_after
  none_after m s = refl

  first_more : (limit : ℕ) (m m' : M) (s t : State) (rest : Searched M) → t ≡ (fitted_step s).state
      → m' ≡ seen m (fitted_step s).state → is_met m' ≡ false → Ends M seen is_met limit m' t rest
      → (k : ℕ) → 0 < k → k < rest.found.steps + 1 → is_met (memory_after seen k m s) ≡ false
  first_more limit m m' s t rest e e' not_met ends zero some few = absurd (omega arith)
  first_more limit m m' s t rest e e' not_met ends (suc zero) some few =
      ap is_met (later zero m s ∙ none_after (seen m (fitted_step s).state) (fitted_step s).state ∙ sym e') ∙ not_met
  first_more limit m m' s t rest e e' not_met ends (suc (suc k)) some few =
      ap is_met (later (suc k) m s
      ∙ ap (λ m''. memory_after seen (suc k) m'' (fitted_step s).state) (sym e')
      ∙ ap (λ t'. memory_after seen (suc k) m' t') (sym e))
      ∙ ends.first (suc k) (omega arith) (omega arith)

  -- one step more
  ends_met_or : (b : Bool) (limit : ℕ) (m m' : M) (s t : State) (rest : Searched M) → t ≡ (fitted_step s).state
      → m' ≡ seen m (fitted_step s).state → is_met m' ≡ b → Ends M seen is_met limit m' t rest
      → Ends M seen is_met (suc limit) m s (if b then met_at m' t else one_more rest)
  ends_met_or true limit m m' s t rest e e' met ends = record {
    first = λ k some few. absurd (omega arith);
    met = λ _. met;
    limit_is = λ is. absurd (cc);
    most = omega arith;
    some = λ _. omega arith;
  }
  ends_met_or false limit m m' s t rest e e' not_met ends =
      let more : limit_by (rest.found.steps + 1) rest.found.end ≡ limit_by rest.found.steps rest.found.end + 1 =
      limit_of_more rest.found.steps rest.found.end in
      record {
        first = first_more limit m m' s t rest e e' not_met ends;
        met = ends.met;
        limit_is = λ is. omega (arith, ends.limit_is is);
        most = omega (arith, more, ends.most);
        some = λ _. omega (arith, more);
      }

  ends_on : (o : Option Stop) (limit : ℕ) (m : M) (s : State) (rest : Searched M)
      → Ends M seen is_met limit (seen m (fitted_step s).state) (fitted_step s).state rest
      → Ends M seen is_met (suc limit) m s
      (search_on seen is_met m (record { state = (fitted_step s).state; stop = o }) rest)
  ends_on None limit m s rest ends =
      let t = (fitted_step s).state in
      ends_met_or (is_met (seen m t)) limit m (seen m t) s t rest refl refl refl ends
  ends_on (Some why) limit m s rest ends = record {
    first = λ k some few. absurd (omega (arith, one_at_most why));
    met = λ is. absurd (cc);
    limit_is = λ is. absurd (cc);
    most = omega (arith, limit_is_one why);
    some = λ _. omega (arith, limit_is_one why);
  }

  -- what holds of each search
  pub search_ends : (limit : ℕ) (m : M) (s : State) → Ends M seen is_met limit m s (search seen is_met limit m s)
  unfolding search
  search_ends zero m s = record {
    first = λ k some few. absurd (omega arith);
    met = λ is. absurd (cc);
    limit_is = λ _. refl;
    most = omega arith;
    some = λ h. absurd (omega arith);
  }
  search_ends (suc limit) m s =
      ends_on (fitted_step s).stop limit m s
      (search seen is_met limit (seen m (fitted_step s).state) (fitted_step s).state)
      (search_ends limit (seen m (fitted_step s).state) (fitted_step s).state)
