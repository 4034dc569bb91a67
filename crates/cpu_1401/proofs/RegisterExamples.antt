-- Registers stored on small machines, computed. Q is 40, H 56, N 37.
use Rattle.std.proofs.Common.{◌≡◌, [], ◌∷◌, None, Some, refl}
use Rattle.bcd_1401.specs.Graphic.{graphics}
use Rattle.core_1401.specs.Storage.{Storage}
use Rattle.machine_tables.specs.declared.stop.Stop.TheVariants as stop
use Rattle.cpu_1401.specs.RegisterStep.{stored}
use Rattle.cpu_1401.specs.Step.{step}
use Rattle.cpu_1401.proofs.ExampleCells.{plain, marked, with_program}

-- 15,999 is I9I; the B over the tens stays, and so does the mark
the_zone_over_the_tens_stays : stored (plain 0 ∷ marked 33 ∷ plain 25 ∷ []) 2 15999 ≡ plain 57 ∷ marked 41 ∷ plain 57
    ∷ []
the_zone_over_the_tens_stays = refl

-- 1,000 is spelled with zone A over its hundreds
zeros_are_eight_two : stored (plain 49 ∷ plain 1 ∷ plain 49 ∷ []) 2 1000 ≡ plain 26 ∷ plain 10 ∷ plain 10 ∷ []
zeros_are_eight_two = refl

-- Q with the address 006, and three places for it
abbrev store_a : Storage
store_a = marked 40 ∷ plain 10 ∷ plain 10 ∷ plain 6 ∷ marked 0 ∷ plain 0 ∷ plain 0 ∷ []

the_old_a_register_is_stored : step (record (with_program store_a 0) { a = 123; b = 45 }) ≡ record {
  state =
      record (with_program (marked 40 ∷ plain 10 ∷ plain 10 ∷ plain 6 ∷ marked 1 ∷ plain 2 ∷ plain 3
      ∷ []) 4) { a = 3; b = 45 };
  stop = None;
}
unfolding step graphics
the_old_a_register_is_stored = refl

-- H with the address 006
abbrev store_b : Storage
store_b = marked 56 ∷ plain 10 ∷ plain 10 ∷ plain 6 ∷ marked 0 ∷ plain 0 ∷ plain 0 ∷ []

the_b_register_is_stored : step (record (with_program store_b 0) { a = 123; b = 45 }) ≡ record {
  state =
      record (with_program (marked 56 ∷ plain 10 ∷ plain 10 ∷ plain 6 ∷ marked 10 ∷ plain 4 ∷ plain 5
      ∷ []) 4) { a = 3; b = 45 };
  stop = None;
}
unfolding step graphics
the_b_register_is_stored = refl

-- places 000 and 001 alone are two
three_places_are_needed : (step (with_program (marked 40 ∷ plain 10 ∷ plain 10 ∷ plain 1 ∷ marked 59 ∷ []) 0)).stop
    ≡ Some stop.Address
unfolding step graphics
three_places_are_needed = refl

no_operation_loads_no_register : step (record (with_program (marked 37 ∷ plain 10 ∷ plain 10 ∷ plain 6 ∷ marked 59
    ∷ []) 0) { a = 8; b = 9 }) ≡ record {
      state = record (with_program (marked 37 ∷ plain 10 ∷ plain 10 ∷ plain 6 ∷ marked 59 ∷ []) 4) { a = 8; b = 9 };
      stop = None;
    }
unfolding step graphics
no_operation_loads_no_register = refl
