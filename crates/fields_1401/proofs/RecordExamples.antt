-- Records moved, worked out by hand.
use Rattle.std.proofs.Common.{◌≡◌, Ok, Err, [], ◌∷◌, refl}
use Rattle.std.specs.Prelude.{codes, slice_index}
use Rattle.bcd_1401.specs.Graphic.{graphics}
use Rattle.fields_1401.specs.declared.done.FieldStop.TheVariants.{Address}
use Rattle.fields_1401.specs.Outcome.{registers_of}
use Rattle.fields_1401.specs.Records.{record_mark, group_mark, record_at, record_len_of, record_moved}
use Rattle.fields_1401.specs.Records.{with_chars_up}
use Rattle.fields_1401.proofs.ProductExampleCells.{cells_of}

the_record_mark : slice_index graphics record_mark ∷ [] ≡ codes "'"
unfolding graphics
the_record_mark = refl

the_group_mark : slice_index graphics group_mark ∷ [] ≡ codes "\""
unfolding graphics
the_group_mark = refl

a_record_ends_with_its_mark : record_at (cells_of (codes "AB~C'D     ~XYZWV")) 0 10
    ≡ Ok (cells_of (codes "AB~C'D     ~ABC'V"), registers_of 4 14)
unfolding record_at record_len_of record_moved with_chars_up cells_of graphics
a_record_ends_with_its_mark = refl

a_group_mark_with_a_word_mark_ends_it : record_at (cells_of (codes "AB~\"C      XXXX")) 0 10
    ≡ Ok (cells_of (codes "AB~\"C      AB\"X"), registers_of 3 13)
unfolding record_at record_len_of record_moved with_chars_up cells_of graphics
a_group_mark_with_a_word_mark_ends_it = refl

a_group_mark_alone_goes_on : record_at (cells_of (codes "A\"B'      XXXXX")) 0 10
    ≡ Ok (cells_of (codes "A\"B'      A\"B'X"), registers_of 4 14)
unfolding record_at record_len_of record_moved with_chars_up cells_of graphics
a_group_mark_alone_goes_on = refl

a_record_mark_alone : record_at (cells_of (codes "'         ~X")) 0 10
    ≡ Ok (cells_of (codes "'         ~'"), registers_of 1 11)
unfolding record_at record_len_of record_moved with_chars_up cells_of graphics
a_record_mark_alone = refl

three_places_higher : record_at (cells_of (codes "AB'CCCC'")) 0 3
    ≡ Ok (cells_of (codes "AB'AB'C'"), registers_of 3 6)
unfolding record_at record_len_of record_moved with_chars_up cells_of graphics
three_places_higher = refl

-- the first character is moved on and on
one_place_higher_it_never_ends : record_at (cells_of (codes "AB'CCCC'")) 0 1 ≡ Err Address
unfolding record_at record_len_of cells_of graphics
one_place_higher_it_never_ends = refl

one_place_lower : record_at (cells_of (codes "AB'C")) 1 0 ≡ Ok (cells_of (codes "B''C"), registers_of 3 2)
unfolding record_at record_len_of record_moved with_chars_up cells_of graphics
one_place_lower = refl

-- the group mark is moved to a place with a word mark, and from there it is the last
a_group_mark_that_repeats_can_end_it : record_at (cells_of (codes "\"~XXX")) 0 1
    ≡ Ok (cells_of (codes "\"~\"\"X"), registers_of 2 3)
unfolding record_at record_len_of record_moved with_chars_up cells_of graphics
a_group_mark_that_repeats_can_end_it = refl

-- no place is left for the record mark
a_record_stays_in_core : record_at (cells_of (codes "AB'XX")) 0 3 ≡ Err Address
unfolding record_at record_len_of cells_of graphics
a_record_stays_in_core = refl
