-- Places in the collating order, counted by hand.
use Rattle.std.proofs.Common.{◌≡◌, length, refl}
use Rattle.bcd_1401.specs.Collation.{collation, order_of}
use Rattle.bcd_1401.specs.Graphic.{graphics}

each_character_has_a_place : length collation ≡ 64
unfolding collation
each_character_has_a_place = refl

a_blank_is_lowest : order_of 0 ≡ 0
unfolding collation graphics
a_blank_is_lowest = refl

-- an A after 25 special characters and plus zero
an_a : order_of 49 ≡ 26
unfolding collation graphics
an_a = refl

-- minus zero after I, and before J
a_minus_zero : order_of 42 ≡ 35
unfolding collation graphics
a_minus_zero = refl

-- the record mark after R, and before S
a_record_mark : order_of 26 ≡ 45
unfolding collation graphics
a_record_mark = refl

-- digits above letters
a_zero : order_of 10 ≡ 54
unfolding collation graphics
a_zero = refl

a_nine_is_highest : order_of 9 ≡ 63
unfolding collation graphics
a_nine_is_highest = refl
