-- Moves worked out by hand.
use Rattle.std.proofs.Common.{◌≡◌, Ok, Err, [], ◌∷◌, refl}
use Rattle.fields_1401.specs.declared.done.FieldStop.TheVariants.{Address}
use Rattle.fields_1401.specs.Outcome.{registers_of}
use Rattle.fields_1401.specs.Places.{with_cells, with_chars}
use Rattle.fields_1401.specs.Move.{moved, move_at}
use Rattle.fields_1401.proofs.ExampleCells.{plain, marked}

-- the character of 3 goes to 2, from there to 1, and from there to 0
one_character_fills_the_field : move_at (marked 7 ∷ plain 1 ∷ plain 2 ∷ plain 3 ∷ []) 3 2
    ≡ Ok (marked 3 ∷ plain 3 ∷ plain 3 ∷ plain 3 ∷ [], registers_of 0 15999)
unfolding move_at moved with_chars with_cells
one_character_fills_the_field = refl

-- the A field begins two places above the B field
two_characters_repeat : move_at (marked 1 ∷ plain 2 ∷ plain 3 ∷ plain 4 ∷ plain 5 ∷ plain 6 ∷ []) 5 3
    ≡ Ok (marked 5 ∷ plain 6 ∷ plain 5 ∷ plain 6 ∷ plain 5 ∷ plain 6 ∷ [], registers_of 1 15999)
unfolding move_at moved with_chars with_cells
two_characters_repeat = refl

-- the A field begins below the B field: each character is read before it is written over
upwards_none_repeats : move_at (marked 1 ∷ plain 2 ∷ plain 3 ∷ plain 4 ∷ []) 1 2
    ≡ Ok (marked 1 ∷ plain 1 ∷ plain 2 ∷ plain 4 ∷ [], registers_of 15999 0)
unfolding move_at moved with_chars with_cells
upwards_none_repeats = refl

-- the word mark at 4 ends the move, and stays
a_shorter_field_takes_what_it_holds : move_at (marked 1 ∷ plain 2 ∷ plain 3 ∷ plain 9 ∷ marked 8 ∷ plain 7 ∷ []) 2 5
    ≡ Ok (marked 1 ∷ plain 2 ∷ plain 3 ∷ plain 9 ∷ marked 2 ∷ plain 3 ∷ [], registers_of 0 3)
unfolding move_at moved with_chars with_cells
a_shorter_field_takes_what_it_holds = refl

-- neither field has a word mark down to 0
a_move_needs_a_word_mark : move_at (plain 1 ∷ plain 2 ∷ marked 3 ∷ []) 1 0 ≡ Err Address
unfolding move_at
a_move_needs_a_word_mark = refl

-- there is no place 2
a_move_stays_in_core : move_at (marked 1 ∷ marked 2 ∷ []) 1 2 ≡ Err Address
unfolding move_at
a_move_stays_in_core = refl
