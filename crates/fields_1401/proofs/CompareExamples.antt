-- Comparisons worked out by hand.
use Rattle.std.proofs.Common.{◌≡◌, true, Ok, Err, Some, [], ◌∷◌, refl}
use Rattle.bcd_1401.specs.Collation.{collation}
use Rattle.bcd_1401.specs.Graphic.{graphics}
use Rattle.fields_1401.specs.declared.done.FieldStop.TheVariants.{Address}
use Rattle.fields_1401.specs.Compare.{comparison_at, highest_difference}
use Rattle.fields_1401.specs.Outcome.{registers_of}
use Rattle.fields_1401.proofs.ExampleCells.{plain, marked}

-- 19 and 21: the tens decide, though 1 is lower than 9
nineteen_and_twenty_one_is_high : comparison_at (marked 1 ∷ plain 9 ∷ marked 2 ∷ plain 1 ∷ []) 1 3
    ≡ Ok (record (registers_of 15999 1) { unequal = true; high = true })
unfolding comparison_at highest_difference collation graphics
nineteen_and_twenty_one_is_high = refl

thirteen_and_twelve_is_low : comparison_at (marked 1 ∷ plain 3 ∷ marked 1 ∷ plain 2 ∷ []) 1 3
    ≡ Ok (record (registers_of 15999 1) { unequal = true; low = true })
unfolding comparison_at highest_difference collation graphics
thirteen_and_twelve_is_low = refl

twelve_and_twelve_is_equal : comparison_at (marked 1 ∷ plain 2 ∷ marked 1 ∷ plain 2 ∷ []) 1 3 ≡ Ok (registers_of 15999 1)
unfolding comparison_at highest_difference collation graphics
twelve_and_twelve_is_equal = refl

-- 12 and 012: the A field ends first
a_longer_field_is_high : comparison_at (marked 1 ∷ plain 2 ∷ marked 10 ∷ plain 1 ∷ plain 2 ∷ []) 1 4
    ≡ Ok (record (registers_of 15999 2) { unequal = true; high = true })
unfolding comparison_at highest_difference collation graphics
a_longer_field_is_high = refl

-- 99 and 012: no character is looked at
a_longer_field_is_high_whatever_it_holds : comparison_at (marked 9 ∷ plain 9 ∷ marked 10 ∷ plain 1 ∷ plain 2 ∷ []) 1 4
    ≡ Ok (record (registers_of 15999 2) { unequal = true; high = true })
unfolding comparison_at highest_difference collation graphics
a_longer_field_is_high_whatever_it_holds = refl

-- 912 and 12: the B field ends first, and only its places are compared
a_shorter_field_is_compared_over_its_places : comparison_at (marked 9 ∷ plain 1 ∷ plain 2 ∷ marked 1 ∷ plain 2 ∷ []) 2 4
    ≡ Ok (registers_of 0 2)
unfolding comparison_at highest_difference collation graphics
a_shorter_field_is_compared_over_its_places = refl

-- Z and 0: a digit is higher than a letter, though its code is lower
a_digit_is_higher_than_a_letter : comparison_at (marked 25 ∷ marked 10 ∷ []) 0 1
    ≡ Ok (record (registers_of 15999 0) { unequal = true; high = true })
unfolding comparison_at highest_difference collation graphics
a_digit_is_higher_than_a_letter = refl

-- neither field has a word mark down to 0
a_compare_needs_a_word_mark : comparison_at (plain 1 ∷ plain 2 ∷ marked 3 ∷ []) 1 0 ≡ Err Address
unfolding comparison_at
a_compare_needs_a_word_mark = refl

-- 1213 and 1312: of the pairs 0, 1 and 2 that differ the highest is 2
the_highest_difference_decides : highest_difference (marked 1 ∷ plain 2 ∷ plain 1 ∷ plain 3 ∷ marked 1 ∷ plain 3 ∷ plain 1
    ∷ plain 2 ∷ []) 3 7 4 ≡ Some 2
unfolding highest_difference
the_highest_difference_decides = refl
