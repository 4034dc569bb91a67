-- Fields as numbers, computed from the transcripts of a sitting.
use Rattle.std.proofs.Common.{◌≡◌, true, false, [], refl, reverse}
use Rattle.std.specs.Fmt.{digits}
use Rattle.std.specs.Prelude.{None, Some, codes}
use Rattle.bcd_1401.specs.Graphic.{graphics}
use Rattle.fields_1401.specs.declared.sign.Sign.TheVariants.{Minus}
use Rattle.machine_notation.specs.Characters.{graphics_of}
use Rattle.operate_views.specs.FieldText.{change_text, characters_text, equals_text, field_text, places_text}
use Rattle.operate_views.specs.NumberText.{is_number, number_text}
use Rattle.operate_views.specs.Value.{lettered, with_number}
use Rattle.operate_views.proofs.ExampleCells.{cell, cells}

-- a refund: the zone over its units is B
a_minus_is_the_zone_over_the_units : number_text (reverse (cells (codes "0000050!"))) ≡ codes "-500"
unfolding graphics cell cells
a_minus_is_the_zone_over_the_units = refl

a_plus_isnt_written : number_text (reverse (cells (codes "0000050?"))) ≡ codes "500"
unfolding graphics cell cells
a_plus_isnt_written = refl

a_zero_has_one_digit : number_text (reverse (cells (codes "000"))) ≡ codes "0"
unfolding graphics cell cells
a_zero_has_one_digit = refl

a_zone_inside_is_no_number : is_number (reverse (cells (codes "0A1"))) ≡ false
unfolding graphics cell cells
a_zone_inside_is_no_number = refl

a_blank_is_no_digit : is_number (reverse (cells (codes " 12"))) ≡ false
unfolding graphics cell cells
a_blank_is_no_digit = refl

a_number_may_have_a_zone_over_its_units : is_number (reverse (cells (codes "12N"))) ≡ true
unfolding graphics cell cells
a_number_may_have_a_zone_over_its_units = refl

a_field_is_printed : field_text (codes "TOTAL") 496 (reverse (cells (codes "0000050!")))
    ≡ codes "TOTAL  00489-00496  0000050!  = -500"
unfolding graphics cell cells graphics_of digits characters_text equals_text field_text places_text
a_field_is_printed = refl

a_field_without_a_label : field_text [] 6 (reverse (cells (codes "000495"))) ≡ codes "00001-00006  000495  = 495"
unfolding graphics cell cells graphics_of digits characters_text equals_text field_text places_text
a_field_without_a_label = refl

a_place_is_one_number : field_text [] 705 (reverse (cells (codes "1"))) ≡ codes "00705  1  = 1"
unfolding graphics cell cells graphics_of digits characters_text equals_text field_text places_text
a_place_is_one_number = refl

a_number_is_put_with_its_sign : with_number (Some Minus) (codes "500") (reverse (cells (codes "00000000")))
    ≡ reverse (cells (codes "0000050!"))
unfolding graphics cell cells
a_number_is_put_with_its_sign = refl

without_a_sign_there_is_no_zone : with_number None (codes "495") (reverse (cells (codes "0000050!")))
    ≡ reverse (cells (codes "00000495"))
unfolding graphics cell cells
without_a_sign_there_is_no_zone = refl

a_text_begins_at_the_high_place : lettered [] (cells (codes "ABC")) ≡ cells (codes "   ")
unfolding graphics cell cells
a_text_begins_at_the_high_place = refl

a_sum_changed : change_text (codes "TOTAL") (reverse (cells (codes "0000050!"))) (reverse (cells (codes "0000000N")))
    ≡ codes "TOTAL 0000050! -> 0000000N"
unfolding graphics cell cells graphics_of change_text
a_sum_changed = refl
