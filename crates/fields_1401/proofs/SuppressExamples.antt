-- Fields suppressed, worked out by hand. Characters are written by their graphics.
use Rattle.std.proofs.Common.{◌≡◌, Ok, Err, [], ◌∷◌, refl}
use Rattle.std.specs.Prelude.{codes, slice_index}
use Rattle.bcd_1401.specs.Graphic.{graphics}
use Rattle.fields_1401.specs.Across.{chars_across, units_unzoned, with_across}
use Rattle.fields_1401.specs.Outcome.{registers_of}
use Rattle.fields_1401.specs.Places.{with_cells}
use Rattle.fields_1401.specs.Suppress.{blank_char, zero_char, comma_char, suppressed, with_suppressed, suppress_at}
use Rattle.fields_1401.specs.declared.done.FieldStop.TheVariants.{Address, Overlap}
use Rattle.fields_1401.proofs.ExampleCells.{plain, marked}
use Rattle.fields_1401.proofs.ExampleGraphics.{chars_of_graphics}

the_blank : slice_index graphics blank_char ∷ [] ≡ codes " "
unfolding graphics
the_blank = refl

the_zero : slice_index graphics zero_char ∷ [] ≡ codes "0"
unfolding graphics
the_zero = refl

the_comma : slice_index graphics comma_char ∷ [] ≡ codes ","
unfolding graphics
the_comma = refl

zeros_on_the_left_go : suppressed (chars_of_graphics (codes "00127")) ≡ chars_of_graphics (codes "  127")
unfolding suppressed chars_of_graphics graphics
zeros_on_the_left_go = refl

none_is_left_of_a_field_of_zeros : suppressed (chars_of_graphics (codes "000")) ≡ chars_of_graphics (codes "   ")
unfolding suppressed chars_of_graphics graphics
none_is_left_of_a_field_of_zeros = refl

commas_go_with_the_zeros : suppressed (chars_of_graphics (codes "0,012")) ≡ chars_of_graphics (codes "   12")
unfolding suppressed chars_of_graphics graphics
commas_go_with_the_zeros = refl

commas_beyond_a_figure_stay : suppressed (chars_of_graphics (codes "01,0,0")) ≡ chars_of_graphics (codes " 1,0,0")
unfolding suppressed chars_of_graphics graphics
commas_beyond_a_figure_stay = refl

a_field_of_commas_and_blanks_is_blank : suppressed (chars_of_graphics (codes ", ,0")) ≡ chars_of_graphics (codes "    ")
unfolding suppressed chars_of_graphics graphics
a_field_of_commas_and_blanks_is_blank = refl

blanks_dont_stop_it : suppressed (chars_of_graphics (codes "  0 05")) ≡ chars_of_graphics (codes "     5")
unfolding suppressed chars_of_graphics graphics
blanks_dont_stop_it = refl

a_sign_stops_it : suppressed (chars_of_graphics (codes "0-05")) ≡ chars_of_graphics (codes " -05")
unfolding suppressed chars_of_graphics graphics
a_sign_stops_it = refl

an_ampersand_stops_it : suppressed (chars_of_graphics (codes "00&0")) ≡ chars_of_graphics (codes "  &0")
unfolding suppressed chars_of_graphics graphics
an_ampersand_stops_it = refl

a_letter_on_the_left_stays : suppressed (chars_of_graphics (codes "A00")) ≡ chars_of_graphics (codes "A00")
unfolding suppressed chars_of_graphics graphics
a_letter_on_the_left_stays = refl

a_point_stops_it : suppressed (chars_of_graphics (codes "00.05")) ≡ chars_of_graphics (codes "  .05")
unfolding suppressed chars_of_graphics graphics
a_point_stops_it = refl

-- the zone over P goes, and 7 is left
a_minus_sign_over_the_units_goes : suppressed (units_unzoned (chars_of_graphics (codes "0012P")))
    ≡ chars_of_graphics (codes "  127")
unfolding suppressed units_unzoned chars_of_graphics graphics
a_minus_sign_over_the_units_goes = refl

-- ! without its zone is a zero
a_minus_zero_is_suppressed : suppressed (units_unzoned (chars_of_graphics (codes "00!")))
    ≡ chars_of_graphics (codes "   ")
unfolding suppressed units_unzoned chars_of_graphics graphics
a_minus_zero_is_suppressed = refl

-- the A keeps its zone and stops the suppression
the_zone_of_the_units_alone_goes : suppressed (units_unzoned (chars_of_graphics (codes "0A?")))
    ≡ chars_of_graphics (codes " A0")
unfolding suppressed units_unzoned chars_of_graphics graphics
the_zone_of_the_units_alone_goes = refl

-- the two places that end at 4 are written, and both marks there are cleared; the field itself and its mark stay
two_places_are_written : suppress_at (marked 10 ∷ plain 37 ∷ plain 1 ∷ marked 2 ∷ marked 3 ∷ marked 4 ∷ []) 1 4
    ≡ Ok (marked 10 ∷ plain 37 ∷ plain 1 ∷ plain 0 ∷ plain 5 ∷ marked 4 ∷ [], registers_of 15999 5)
unfolding suppress_at with_suppressed with_across with_cells suppressed units_unzoned chars_across
two_places_are_written = refl

-- a field may be suppressed in place: its own mark goes
in_its_own_place : suppress_at (plain 7 ∷ marked 10 ∷ plain 37 ∷ []) 2 2
    ≡ Ok (plain 7 ∷ plain 0 ∷ plain 5 ∷ [], registers_of 0 3)
unfolding suppress_at with_suppressed with_across with_cells suppressed units_unzoned chars_across
in_its_own_place = refl

a_shared_place_is_refused : suppress_at (marked 10 ∷ plain 37 ∷ plain 1 ∷ []) 1 2 ≡ Err Overlap
unfolding suppress_at with_suppressed with_across with_cells suppressed units_unzoned chars_across
a_shared_place_is_refused = refl

no_room_is_refused_before_a_shared_place : suppress_at (plain 7 ∷ marked 10 ∷ plain 37 ∷ []) 2 0 ≡ Err Address
unfolding suppress_at with_suppressed with_across with_cells suppressed units_unzoned chars_across
no_room_is_refused_before_a_shared_place = refl

a_field_without_its_mark_is_refused : suppress_at (plain 10 ∷ plain 37 ∷ marked 1 ∷ []) 1 2 ≡ Err Address
unfolding suppress_at with_suppressed with_across with_cells suppressed units_unzoned chars_across
a_field_without_its_mark_is_refused = refl

a_place_out_of_core_is_refused : suppress_at (marked 10 ∷ plain 37 ∷ []) 1 2 ≡ Err Address
unfolding suppress_at with_suppressed with_across with_cells suppressed units_unzoned chars_across
a_place_out_of_core_is_refused = refl
