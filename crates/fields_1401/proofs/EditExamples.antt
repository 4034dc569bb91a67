-- Fields edited, worked out by hand. Characters are written by their graphics: first the control word, then the
-- characters of A that it takes, the units without their zone, then what is left.
use Rattle.std.proofs.Common.{◌≡◌, Ok, Err, [], ◌∷◌, refl}
use Rattle.std.specs.Prelude.{codes, slice_index}
use Rattle.bcd_1401.specs.Graphic.{graphics}
use Rattle.fields_1401.specs.Across.{chars_across, units_unzoned, with_across}
use Rattle.fields_1401.specs.Edit.{ampersand_char, minus_char, c_char, r_char, before_significant, limit_of, edited}
use Rattle.fields_1401.specs.Edit.{edit_lengths_at, with_edited, edit_at}
use Rattle.fields_1401.specs.Outcome.{registers_of}
use Rattle.fields_1401.specs.Places.{with_cells}
use Rattle.fields_1401.specs.declared.done.FieldStop.TheVariants.{Address, Overlap}
use Rattle.fields_1401.specs.declared.sign.Sign.TheVariants.{Plus, Minus}
use Rattle.fields_1401.proofs.ExampleCells.{plain, marked}
use Rattle.fields_1401.proofs.ExampleGraphics.{chars_of_graphics}

the_ampersand : slice_index graphics ampersand_char ∷ [] ≡ codes "&"
unfolding graphics
the_ampersand = refl

the_minus : slice_index graphics minus_char ∷ [] ≡ codes "-"
unfolding graphics
the_minus = refl

the_c : slice_index graphics c_char ∷ [] ≡ codes "C"
unfolding graphics
the_c = refl

the_r : slice_index graphics r_char ∷ [] ≡ codes "R"
unfolding graphics
the_r = refl

-- the first figure is to the left of the comma
a_sum_of_money : edited (chars_of_graphics (codes "   ,  0.  &CR")) (chars_of_graphics (codes "00257426")) Plus
    ≡ chars_of_graphics (codes "  2,574.26   ")
unfolding edited before_significant limit_of chars_of_graphics graphics
a_sum_of_money = refl

-- no figure is to the left of the last zero of the control word, at place 6
a_small_sum_of_money : edited (chars_of_graphics (codes "   ,  0.  &CR")) (chars_of_graphics (codes "00000005")) Plus
    ≡ chars_of_graphics (codes "       .05   ")
unfolding edited before_significant limit_of chars_of_graphics graphics
a_small_sum_of_money = refl

-- a minus leaves its letters
a_debt : edited (chars_of_graphics (codes "   ,  0.  &CR")) (chars_of_graphics (codes "00257426")) Minus
    ≡ chars_of_graphics (codes "  2,574.26 CR")
unfolding edited before_significant limit_of chars_of_graphics graphics
a_debt = refl

-- right of the last zero of the control word zeros stay
no_money : edited (chars_of_graphics (codes "   ,  0.  &CR")) (chars_of_graphics (codes "00000000")) Minus
    ≡ chars_of_graphics (codes "       .00 CR")
unfolding edited before_significant limit_of chars_of_graphics graphics
no_money = refl

-- A ran out right of the comma
a_shorter_field : edited (chars_of_graphics (codes "   ,  0.  ")) (chars_of_graphics (codes "426")) Plus
    ≡ chars_of_graphics (codes "      4.26")
unfolding edited before_significant limit_of chars_of_graphics graphics
a_shorter_field = refl

-- without a zero in the control word nothing is suppressed
a_field_as_long_keeps_its_comma : edited (chars_of_graphics (codes "  ,   ")) (chars_of_graphics (codes "00123")) Plus
    ≡ chars_of_graphics (codes "00,123")
unfolding edited before_significant limit_of chars_of_graphics graphics
a_field_as_long_keeps_its_comma = refl

-- three are left over, and the comma among them
a_shorter_field_loses_its_comma : edited (chars_of_graphics (codes "   ,   ")) (chars_of_graphics (codes "123")) Plus
    ≡ chars_of_graphics (codes "    123")
unfolding edited before_significant limit_of chars_of_graphics graphics
a_shorter_field_loses_its_comma = refl

-- two are left over
a_comma_right_of_the_first_taken_stays : edited (chars_of_graphics (codes "   ,   "))
    (chars_of_graphics (codes "0123")) Plus ≡ chars_of_graphics (codes "  0,123")
unfolding edited before_significant limit_of chars_of_graphics graphics
a_comma_right_of_the_first_taken_stays = refl

-- all of it is after the replaceable places
no_replaceable_place : edited (chars_of_graphics (codes "&.,-")) [] Plus ≡ chars_of_graphics (codes " .  ")
unfolding edited before_significant limit_of chars_of_graphics graphics
no_replaceable_place = refl

-- a minus leaves all parts of a sign
no_replaceable_place_and_minus : edited (chars_of_graphics (codes "&.,-CR")) [] Minus
    ≡ chars_of_graphics (codes " . -CR")
unfolding edited before_significant limit_of chars_of_graphics graphics
no_replaceable_place_and_minus = refl

-- left of the last replaceable place they stay
letters_among_the_digits : edited (chars_of_graphics (codes "C - R ")) (chars_of_graphics (codes "123")) Plus
    ≡ chars_of_graphics (codes "C1-2R3")
unfolding edited before_significant limit_of chars_of_graphics graphics
letters_among_the_digits = refl

-- each becomes blank
ampersands_on_both_sides : edited (chars_of_graphics (codes "& & &")) (chars_of_graphics (codes "12")) Minus
    ≡ chars_of_graphics (codes " 1 2 ")
unfolding edited before_significant limit_of chars_of_graphics graphics
ampersands_on_both_sides = refl

-- what came from A stays, and is significant
an_ampersand_from_a : edited (chars_of_graphics (codes "   0")) (chars_of_graphics (codes "0&12")) Plus
    ≡ chars_of_graphics (codes " &12")
unfolding edited before_significant limit_of chars_of_graphics graphics
an_ampersand_from_a = refl

-- so does a comma
a_comma_from_a : edited (chars_of_graphics (codes "    0")) (chars_of_graphics (codes "0,005")) Plus
    ≡ chars_of_graphics (codes " ,005")
unfolding edited before_significant limit_of chars_of_graphics graphics
a_comma_from_a = refl

-- the second comma is to the right of the limit
a_comma_beyond_the_last_zero : edited (chars_of_graphics (codes " ,0, ")) (chars_of_graphics (codes "000")) Plus
    ≡ chars_of_graphics (codes "   ,0")
unfolding edited before_significant limit_of chars_of_graphics graphics
a_comma_beyond_the_last_zero = refl

-- the first comma is to the left of the 1
the_first_significant_place_ends_it : edited (chars_of_graphics (codes " ,0, ")) (chars_of_graphics (codes "012")) Plus
    ≡ chars_of_graphics (codes "  1,2")
unfolding edited before_significant limit_of chars_of_graphics graphics
the_first_significant_place_ends_it = refl

-- nothing is to the left of it
a_significant_place_on_the_left : edited (chars_of_graphics (codes " ,0, ")) (chars_of_graphics (codes "102")) Plus
    ≡ chars_of_graphics (codes "1,0,2")
unfolding edited before_significant limit_of chars_of_graphics graphics
a_significant_place_on_the_left = refl

-- all zeros go
the_last_place_is_the_limit : edited (chars_of_graphics (codes "  0")) (chars_of_graphics (codes "000")) Plus
    ≡ chars_of_graphics (codes "   ")
unfolding edited before_significant limit_of chars_of_graphics graphics
the_last_place_is_the_limit = refl

-- the second zero is to the right of it
the_first_place_is_the_limit : edited (chars_of_graphics (codes "0  ")) (chars_of_graphics (codes "005")) Plus
    ≡ chars_of_graphics (codes " 05")
unfolding edited before_significant limit_of chars_of_graphics graphics
the_first_place_is_the_limit = refl

-- it is left over, and still the limit
a_limit_that_took_nothing : edited (chars_of_graphics (codes "0   ")) (chars_of_graphics (codes "05")) Plus
    ≡ chars_of_graphics (codes "  05")
unfolding edited before_significant limit_of chars_of_graphics graphics
a_limit_that_took_nothing = refl

-- so the zero after it goes
a_blank_from_a_is_not_significant : edited (chars_of_graphics (codes "   0")) (chars_of_graphics (codes "  05")) Plus
    ≡ chars_of_graphics (codes "   5")
unfolding edited before_significant limit_of chars_of_graphics graphics
a_blank_from_a_is_not_significant = refl

-- also if A is minus
a_comma_beyond_all_goes : edited (chars_of_graphics (codes "  ,")) (chars_of_graphics (codes "12")) Minus
    ≡ chars_of_graphics (codes "12 ")
unfolding edited before_significant limit_of chars_of_graphics graphics
a_comma_beyond_all_goes = refl

-- without a zero in the control word
other_characters_stay : edited (chars_of_graphics (codes "$  .  *")) (chars_of_graphics (codes "0123")) Plus
    ≡ chars_of_graphics (codes "$01.23*")
unfolding edited before_significant limit_of chars_of_graphics graphics
other_characters_stay = refl

-- it stays if A is minus
a_minus_sign_on_the_right : edited (chars_of_graphics (codes "   -")) (chars_of_graphics (codes "123")) Minus
    ≡ chars_of_graphics (codes "123-")
unfolding edited before_significant limit_of chars_of_graphics graphics
a_minus_sign_on_the_right = refl

-- and goes if it is plus
no_minus_sign_on_the_right : edited (chars_of_graphics (codes "   -")) (chars_of_graphics (codes "123")) Plus
    ≡ chars_of_graphics (codes "123 ")
unfolding edited before_significant limit_of chars_of_graphics graphics
no_minus_sign_on_the_right = refl

-- what came from A is no part of a sign
a_letter_from_a : edited (chars_of_graphics (codes "  0")) (chars_of_graphics (codes "C-R")) Plus
    ≡ chars_of_graphics (codes "C-R")
unfolding edited before_significant limit_of chars_of_graphics graphics
a_letter_from_a = refl

-- 1234E is five long and plus, the control word takes the last three of it; its mark goes, and the cells beside it stay
a_longer_field : edit_at (marked 1 ∷ plain 2 ∷ plain 3 ∷ plain 4 ∷ plain 53 ∷ marked 0 ∷ plain 0 ∷ plain 10 ∷ plain 32
    ∷ marked 7 ∷ []) 4 8
    ≡ Ok (
      marked 1 ∷ plain 2 ∷ plain 3 ∷ plain 4 ∷ plain 53 ∷ plain 3 ∷ plain 4 ∷ plain 5 ∷ plain 0 ∷ marked 7
          ∷ [],
      registers_of 1 4,
    )
unfolding edit_at edit_lengths_at with_edited with_across with_cells edited before_significant limit_of units_unzoned
    chars_across
a_longer_field = refl

-- 0N is -5: two places of three are filled, and the sign stays
a_minus_field : edit_at (marked 10 ∷ plain 37 ∷ marked 0 ∷ plain 0 ∷ plain 0 ∷ plain 32 ∷ []) 1 5
    ≡ Ok (marked 10 ∷ plain 37 ∷ plain 0 ∷ plain 10 ∷ plain 5 ∷ plain 32 ∷ [], registers_of 15999 1)
unfolding edit_at edit_lengths_at with_edited with_across with_cells edited before_significant limit_of units_unzoned
    chars_across
a_minus_field = refl

-- nothing is taken, and the character at 0 still has the sign; it needs no word mark
the_sign_alone : edit_at (plain 37 ∷ marked 51 ∷ plain 41 ∷ []) 0 2
    ≡ Ok (plain 37 ∷ plain 51 ∷ plain 41 ∷ [], registers_of 0 0)
unfolding edit_at edit_lengths_at with_edited with_across with_cells edited before_significant limit_of units_unzoned
    chars_across
the_sign_alone = refl

-- both places that the control word takes are there, though no word mark is
enough_places : edit_at (plain 1 ∷ plain 2 ∷ marked 0 ∷ plain 0 ∷ []) 1 3
    ≡ Ok (plain 1 ∷ plain 2 ∷ plain 1 ∷ plain 2 ∷ [], registers_of 15999 1)
unfolding edit_at edit_lengths_at with_edited with_across with_cells edited before_significant limit_of units_unzoned
    chars_across
enough_places = refl

too_few_places : edit_at (plain 1 ∷ plain 2 ∷ marked 0 ∷ plain 0 ∷ plain 0 ∷ []) 1 4 ≡ Err Address
unfolding edit_at edit_lengths_at with_edited with_across with_cells edited before_significant limit_of units_unzoned
    chars_across
too_few_places = refl

no_control_word : edit_at (marked 1 ∷ plain 2 ∷ []) 0 2 ≡ Err Address
unfolding edit_at edit_lengths_at with_edited with_across with_cells edited before_significant limit_of units_unzoned
    chars_across
no_control_word = refl

the_sign_is_not_in_core : edit_at (marked 51 ∷ plain 41 ∷ []) 2 1 ≡ Err Address
unfolding edit_at edit_lengths_at with_edited with_across with_cells edited before_significant limit_of units_unzoned
    chars_across
the_sign_is_not_in_core = refl

-- a field is no control word for itself
the_same_field : edit_at (marked 1 ∷ marked 2 ∷ []) 1 1 ≡ Err Overlap
unfolding edit_at edit_lengths_at with_edited with_across with_cells edited before_significant limit_of units_unzoned
    chars_across
the_same_field = refl

-- the last place of A is the first of the control word
a_shared_place : edit_at (marked 1 ∷ plain 2 ∷ marked 0 ∷ plain 0 ∷ []) 2 3 ≡ Err Overlap
unfolding edit_at edit_lengths_at with_edited with_across with_cells edited before_significant limit_of units_unzoned
    chars_across
a_shared_place = refl

-- no place is taken, but the sign is in the control word
a_shared_sign : edit_at (marked 51 ∷ plain 41 ∷ []) 0 1 ≡ Err Overlap
unfolding edit_at edit_lengths_at with_edited with_across with_cells edited before_significant limit_of units_unzoned
    chars_across
a_shared_sign = refl
