-- Loads worked out by hand.
use Rattle.std.proofs.Common.{◌≡◌, Ok, Err, [], ◌∷◌, refl}
use Rattle.fields_1401.specs.declared.done.FieldStop.TheVariants.{Address}
use Rattle.fields_1401.specs.Outcome.{registers_of}
use Rattle.fields_1401.specs.Places.{with_cells}
use Rattle.fields_1401.proofs.ExampleCells.{plain, marked}
use Rattle.fields_1401.specs.Load.{loaded, load_at}

-- the word mark comes with the A field, the one at 4 is gone, and the cell at 2 is as it was
a_load_brings_its_word_mark : load_at (marked 1 ∷ plain 2 ∷ marked 7 ∷ plain 8 ∷ marked 9 ∷ []) 1 4
    ≡ Ok (marked 1 ∷ plain 2 ∷ marked 7 ∷ marked 1 ∷ plain 2 ∷ [], registers_of 15999 2)
unfolding load_at loaded with_cells
a_load_brings_its_word_mark = refl

-- the A field begins below the B field: each cell is read before it is written over
a_load_upwards : load_at (plain 9 ∷ marked 1 ∷ plain 2 ∷ plain 5 ∷ []) 2 3
    ≡ Ok (plain 9 ∷ marked 1 ∷ marked 1 ∷ plain 2 ∷ [], registers_of 0 1)
unfolding load_at loaded with_cells
a_load_upwards = refl

-- the two places below the A field are just enough
a_load_right_below_itself : load_at (plain 7 ∷ plain 8 ∷ marked 1 ∷ plain 2 ∷ []) 3 1
    ≡ Ok (marked 1 ∷ plain 2 ∷ marked 1 ∷ plain 2 ∷ [], registers_of 1 15999)
unfolding load_at loaded with_cells
a_load_right_below_itself = refl

-- the character of 2 would be written over the word mark at 1
a_load_meets_its_word_mark : load_at (plain 9 ∷ marked 1 ∷ plain 2 ∷ []) 2 1 ≡ Err Address
unfolding load_at
a_load_meets_its_word_mark = refl

-- two cells have no room at 0
a_load_stays_in_core : load_at (plain 9 ∷ marked 1 ∷ plain 2 ∷ []) 2 0 ≡ Err Address
unfolding load_at
a_load_stays_in_core = refl

-- the A field alone needs a word mark
a_load_needs_the_word_mark_of_a : load_at (plain 1 ∷ plain 2 ∷ marked 3 ∷ marked 4 ∷ []) 1 3 ≡ Err Address
unfolding load_at
a_load_needs_the_word_mark_of_a = refl
