-- Compares on small machines, computed. C is 51, and the chained one has no address.
use Rattle.std.proofs.Common.{◌≡◌, true, [], ◌∷◌, None, refl}
use Rattle.bcd_1401.specs.Collation.{collation}
use Rattle.bcd_1401.specs.Graphic.{graphics}
use Rattle.core_1401.specs.Storage.{Storage}
use Rattle.fields_1401.specs.Compare.{comparison_at, highest_difference}
use Rattle.cpu_1401.specs.Step.{step}
use Rattle.cpu_1401.proofs.ExampleCells.{plain, marked, with_program}

-- C 008,009: a 1 and a 2
abbrev one_and_two : Storage
one_and_two =
    marked 51 ∷ plain 10 ∷ plain 10 ∷ plain 8 ∷ plain 10 ∷ plain 10 ∷ plain 9 ∷ marked 51 ∷ marked 1 ∷ marked 2 ∷ []

two_is_high : step (with_program one_and_two 0) ≡ record {
  state = record (with_program one_and_two 7) { a = 7; b = 8; unequal = true; high = true };
  stop = None;
}
unfolding step graphics collation comparison_at highest_difference
two_is_high = refl

-- a compare with addresses sets all three indicators
abbrev one_and_one : Storage
one_and_one =
    marked 51 ∷ plain 10 ∷ plain 10 ∷ plain 8 ∷ plain 10 ∷ plain 10 ∷ plain 9 ∷ marked 51 ∷ marked 1 ∷ marked 1 ∷ []

equal_clears : (step (record (with_program one_and_one 0) { unequal = true; low = true })).state
    ≡ record (with_program one_and_one 7) { a = 7; b = 8 }
unfolding step graphics collation comparison_at highest_difference
equal_clears = refl

-- a chained one that is equal leaves them
equal_and_chained_leaves : (step (record (with_program one_and_one 7) { a = 8; b = 9; unequal = true; low = true })).state
    ≡ record (with_program one_and_one 8) { a = 7; b = 8; unequal = true; low = true }
unfolding step graphics collation comparison_at highest_difference
equal_and_chained_leaves = refl

-- and one that isn't sets them
high_and_chained_sets : (step (record (with_program one_and_two 7) { a = 8; b = 9; unequal = true; low = true })).state
    ≡ record (with_program one_and_two 8) { a = 7; b = 8; unequal = true; high = true }
unfolding step graphics collation comparison_at highest_difference
high_and_chained_sets = refl
