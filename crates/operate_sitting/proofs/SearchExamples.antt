-- Searches on small machines, computed. The codes are 37 for N, 50 for B, 59 for the full stop, 10 for zero.
use Rattle.std.proofs.Common.{◌≡◌, ℕ, ◌+◌, ◌==◌, Bool, false, [], ◌∷◌, refl}
use Rattle.bcd_1401.specs.Graphic.{graphics}
use Rattle.core_1401.specs.Storage.{Storage}
use Rattle.machine_tables.specs.declared.stop.Stop.TheVariants as stop
use Rattle.cpu_1401.specs.State.{State}
use Rattle.cpu_1401.specs.Fitting.{fitted_step}
use Rattle.cpu_1401.specs.Step.{step}
use Rattle.cpu_1401.proofs.ExampleCells.{plain, marked, with_program}
use Rattle.operate_sitting.specs.declared.search.SearchEnd.TheVariants as end
use Rattle.operate_sitting.specs.Search.{limit_of, search}

-- two instructions that do nothing, and a halt
abbrev three : Storage
three = marked 37 ∷ marked 37 ∷ marked 59 ∷ marked 37 ∷ []

-- a branch to itself, at 0
abbrev endless : Storage
endless = marked 50 ∷ plain 10 ∷ plain 10 ∷ plain 10 ∷ marked 37 ∷ []

-- how many steps a test has seen, and whether they are two
abbrev counts : ℕ → State → ℕ
counts m s = m + 1

abbrev are_two : ℕ → Bool
are_two m = m == 2

-- whether the last step came to the address 0, and to 1
abbrev at_zero : Bool → State → Bool
at_zero m s = s.i == 0

abbrev at_one : Bool → State → Bool
at_one m s = s.i == 1

abbrev itself : Bool → Bool
itself m = m

a_search_ends_with_the_step_that_meets_its_test : search counts are_two 5 0 (with_program three 0)
    ≡ record { state = with_program three 2; memory = 2; found = record { steps = 2; end = end.Met } }
unfolding search fitted_step step graphics
a_search_ends_with_the_step_that_meets_its_test = refl

the_address_that_it_begins_at_does_not_count : search at_zero itself 5 false (with_program three 0)
    ≡ record { state = with_program three 3; memory = false; found = record { steps = 3; end = end.Stop stop.Halt } }
unfolding search fitted_step step graphics
the_address_that_it_begins_at_does_not_count = refl

a_branch_to_itself_comes_there_again : (search at_zero itself 5 false (with_program endless 0)).found
    ≡ record { steps = 1; end = end.Met }
unfolding search fitted_step step graphics
a_branch_to_itself_comes_there_again = refl

a_halt_is_seen : (search counts are_two 5 1 (with_program three 2)).memory ≡ 2
unfolding search fitted_step step graphics
a_halt_is_seen = refl

a_halt_goes_before_the_test : (search counts are_two 5 1 (with_program three 2)).found
    ≡ record { steps = 1; end = end.Stop stop.Halt }
unfolding search fitted_step step graphics
a_halt_goes_before_the_test = refl

what_is_not_carried_out_is_not_seen : search counts are_two 5 1 (with_program endless 1)
    ≡ record { state = with_program endless 1; memory = 1; found = record { steps = 0; end = end.Stop stop.NoMark } }
unfolding search fitted_step step graphics
what_is_not_carried_out_is_not_seen = refl

the_limit_comes_after_as_many_steps : (search at_zero itself 2 false (with_program three 0)).found
    ≡ record { steps = 2; end = end.Limit }
unfolding search fitted_step step graphics
the_limit_comes_after_as_many_steps = refl

the_limit_may_meet_the_test : (search at_one itself 1 false (with_program three 0)).found
    ≡ record { steps = 1; end = end.Met }
unfolding search fitted_step step graphics
the_limit_may_meet_the_test = refl

-- a refused instruction is asked for, and a halt is among the steps
a_run_asks_for_the_refused_instruction : limit_of (record { steps = 7; end = end.Stop stop.Address }) ≡ 8
a_run_asks_for_the_refused_instruction = refl

a_run_has_its_halt : limit_of (record { steps = 34; end = end.Stop stop.Halt }) ≡ 34
a_run_has_its_halt = refl
