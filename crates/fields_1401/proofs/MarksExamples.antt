-- Word marks and storage cleared, computed.
use Rattle.std.proofs.Common.{◌≡◌, Ok, Err, [], ◌∷◌, ◌++◌, replicate, refl}
use Rattle.core_1401.specs.Storage.{blank}
use Rattle.fields_1401.specs.declared.done.FieldStop.TheVariants.{Address}
use Rattle.fields_1401.specs.Outcome.{registers_of}
use Rattle.fields_1401.specs.Places.{with_cells}
use Rattle.fields_1401.specs.Marks.{set_marks_at, clear_marks_at, cleared, clear_down_at}
use Rattle.fields_1401.proofs.ExampleCells.{plain, marked}

both_are_set : set_marks_at (plain 1 ∷ plain 2 ∷ plain 3 ∷ []) 2 0 ≡ Ok
    (marked 1 ∷ plain 2 ∷ marked 3 ∷ [], registers_of 1 15999)
both_are_set = refl

both_are_cleared : clear_marks_at (marked 1 ∷ marked 2 ∷ marked 3 ∷ []) 0 2
    ≡ Ok (plain 1 ∷ marked 2 ∷ plain 3 ∷ [], registers_of 15999 1)
both_are_cleared = refl

one_out_of_core_clears_none : clear_marks_at (marked 1 ∷ marked 2 ∷ []) 0 2 ≡ Err Address
one_out_of_core_clears_none = refl

-- from 103 down to 100
clearing_stops_at_the_hundred : clear_down_at (replicate 105 (marked 7)) 103
    ≡ Ok (replicate 100 (marked 7) ++ replicate 4 blank ++ marked 7 ∷ [], registers_of 103 99)
unfolding cleared with_cells
clearing_stops_at_the_hundred = refl

-- a hundred itself is cleared alone
a_hundred_is_one_place : clear_down_at (replicate 101 (marked 7)) 100
    ≡ Ok (replicate 100 (marked 7) ++ blank ∷ [], registers_of 100 99)
unfolding cleared with_cells
a_hundred_is_one_place = refl

-- below the first hundred the B register begins again at 15,999
the_first_hundred : clear_down_at (marked 1 ∷ marked 2 ∷ marked 3 ∷ []) 1
    ≡ Ok (blank ∷ blank ∷ marked 3 ∷ [], registers_of 1 15999)
unfolding cleared with_cells
the_first_hundred = refl

clearing_stays_in_core : clear_down_at (marked 1 ∷ []) 1 ≡ Err Address
clearing_stays_in_core = refl
