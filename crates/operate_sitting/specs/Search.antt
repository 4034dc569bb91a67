-- A search: steps until one meets a test, until the machine stops, or until the limit (own).
use Rattle.std.specs.Prelude.{ℕ, ◌+◌, ◌==◌, zero, suc, Bool, if◌then◌else◌, option_map, unwrap_or}
use Rattle.machine_tables.specs.declared.stop.Stop.{Stop}
use Rattle.cpu_1401.specs.Run.{carried_out_by}
use Rattle.cpu_1401.specs.State.{State}
use Rattle.cpu_1401.specs.Fitting.{fitted_step}
use Rattle.cpu_1401.specs.Stepped.{Stepped}
use Rattle.operate_sitting.specs.declared.search.Found.{Found}
use Rattle.operate_sitting.specs.declared.search.SearchEnd.{SearchEnd}
use Rattle.operate_sitting.specs.declared.search.SearchEnd.TheVariants as end

-- a search that ended: the machine, what the test remembers, and how it ended
pub record Searched (M : Type 0) : Type 0 where
  pub state : State
  pub memory : M
  pub found : Found

-- one instruction more was carried out
abbrev pub one_more : {M : Type 0} → Searched M → Searched M
one_more rest = record rest { found = record rest.found { steps = rest.found.steps + 1 } }

-- a search that ends with a step, which meets the test
abbrev pub met_at : {M : Type 0} → M → State → Searched M
met_at m s = record { state = s; memory = m; found = record { steps = 1; end = end.Met } }

-- what a test remembers after a step that stops the machine: it sees an instruction that was carried out
abbrev pub memory_at : {M : Type 0} → (M → State → M) → Stop → M → State → M
memory_at seen why m s = if carried_out_by why == 0 then m else seen m s

-- a search that ends with a step, which stops the machine
abbrev pub stopped_at : {M : Type 0} → (M → State → M) → M → State → Stop → Searched M
stopped_at seen m s why = record {
  state = s;
  memory = memory_at seen why m s;
  found = record { steps = carried_out_by why; end = end.Stop why };
}

-- a search from a step on that was carried out: it ends there if that meets the test, and else the rest follows
abbrev pub met_or : {M : Type 0} → (M → Bool) → M → State → Searched M → Searched M
met_or is_met m s rest = if is_met m then met_at m s else one_more rest

-- a search from a step on: it ends with the step's stop, if there is one
abbrev pub search_on : {M : Type 0} → (M → State → M) → (M → Bool) → M → Stepped → Searched M → Searched M
search_on seen is_met m done rest =
    unwrap_or (option_map (stopped_at seen m done.state) done.stop) (met_or is_met (seen m done.state) done.state rest)

-- steps until the first that meets the test, until the first stop, or until the limit
unfoldable pub search : {M : Type 0} → (M → State → M) → (M → Bool) → ℕ → M → State → Searched M
search seen is_met zero m s = record { state = s; memory = m; found = record { steps = 0; end = end.Limit } }
search seen is_met (suc limit) m s =
    let done = fitted_step s in search_on seen is_met m done (search seen is_met limit (seen m done.state) done.state)

-- what a test remembers after this many steps
unfoldable pub memory_after : {M : Type 0} → (M → State → M) → ℕ → M → State → M
memory_after seen zero m s = m
memory_after seen (suc steps) m s = memory_after seen steps (seen m (fitted_step s).state) (fitted_step s).state

-- the limit of the run that does what a search did: if the machine stopped at an instruction that it didn't carry out,
-- the run comes to the same stop by asking for that one too
abbrev pub limit_by : ℕ → SearchEnd → ℕ
limit_by steps (end.Stop why) = if carried_out_by why == 0 then steps + 1 else steps
limit_by steps end.Met = steps
limit_by steps end.Limit = steps

abbrev pub limit_of : Found → ℕ
limit_of found = limit_by found.steps found.end
