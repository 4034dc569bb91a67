-- Addresses modified, worked out by hand.
use Rattle.std.proofs.Common.{◌≡◌, Ok, Err, refl}
use Rattle.std.specs.Prelude.{codes}
use Rattle.bcd_1401.specs.Graphic.{graphics}
use Rattle.fields_1401.specs.declared.done.FieldStop.TheVariants.{Address}
use Rattle.fields_1401.specs.Outcome.{registers_of}
use Rattle.fields_1401.specs.AddressSums.{address_sum_at}
use Rattle.fields_1401.proofs.ProductExampleCells.{cells_of}

-- 500 and 500 are 1000; the tens keep their zone
the_tens_keep_their_zone : address_sum_at (cells_of (codes "500       5Z0")) 2 12
    ≡ Ok (cells_of (codes "500       'Z0"), registers_of 15999 9)
unfolding address_sum_at cells_of graphics
the_tens_keep_their_zone = refl

fifteen_thousand_nine_hundred_and_ninety_nine_takes_one_away : address_sum_at (cells_of (codes "I9I       590")) 2 12
    ≡ Ok (cells_of (codes "I9I       589"), registers_of 15999 9)
unfolding address_sum_at cells_of graphics
fifteen_thousand_nine_hundred_and_ninety_nine_takes_one_away = refl

sixteen_thousand_is_zero : address_sum_at (cells_of (codes "I9I       001")) 2 12
    ≡ Ok (cells_of (codes "I9I       000"), registers_of 15999 9)
unfolding address_sum_at cells_of graphics
sixteen_thousand_is_zero = refl

word_marks_stay_and_a_blank_is_zero : address_sum_at (cells_of (codes "  1       ~5~0~7")) 2 12
    ≡ Ok (cells_of (codes "  1       ~5~0~8"), registers_of 15999 9)
unfolding address_sum_at cells_of graphics
word_marks_stay_and_a_blank_is_zero = refl

one_address_is_doubled : address_sum_at (cells_of (codes "          250")) 12 12
    ≡ Ok (cells_of (codes "          500"), registers_of 9 9)
unfolding address_sum_at cells_of graphics
one_address_is_doubled = refl

the_zone_over_the_tens_counts_for_nothing : address_sum_at (cells_of (codes "0S1       009")) 2 12
    ≡ Ok (cells_of (codes "0S1       030"), registers_of 15999 9)
unfolding address_sum_at cells_of graphics
the_zone_over_the_tens_counts_for_nothing = refl

an_address_needs_three_places : address_sum_at (cells_of (codes "001       ")) 2 1 ≡ Err Address
unfolding address_sum_at cells_of graphics
an_address_needs_three_places = refl
