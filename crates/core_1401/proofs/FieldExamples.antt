-- Lengths of fields, computed.
use Rattle.std.proofs.Common.{◌≡◌, true, [], ◌∷◌, Some, None, refl}
use Rattle.bcd_1401.specs.declared.cell.Cell.{Cell}
use Rattle.core_1401.specs.Field.{field_at, field_len_of, pair_len_of, next_mark_from}
use Rattle.core_1401.specs.Storage.{Storage, blank}

abbrev marked : Cell
marked = record { char = 0; mark = true }

-- word marks at 1 and 4
abbrev two_marks : Storage
two_marks = blank ∷ marked ∷ blank ∷ blank ∷ marked ∷ blank ∷ []

a_field_ends_at_its_mark : field_len_of two_marks 3 ≡ Some 3
a_field_ends_at_its_mark = refl

a_marked_place_is_a_field : field_len_of two_marks 4 ≡ Some 1
a_marked_place_is_a_field = refl

no_field_without_a_mark : field_len_of two_marks 0 ≡ None
no_field_without_a_mark = refl

no_field_out_of_core : field_len_of two_marks 6 ≡ None
no_field_out_of_core = refl

a_field_has_its_units_first : field_at two_marks 5 ≡ Some (blank ∷ marked ∷ [])
a_field_has_its_units_first = refl

a_pair_ends_at_the_first_mark : pair_len_of two_marks 5 3 ≡ Some 2
a_pair_ends_at_the_first_mark = refl

no_pair_where_one_passes_the_first_place : pair_len_of two_marks 3 0 ≡ None
no_pair_where_one_passes_the_first_place = refl

the_next_mark_stands_three_above : next_mark_from two_marks 1 ≡ 3
the_next_mark_stands_three_above = refl

past_the_last_mark_it_is_the_end_of_core : next_mark_from two_marks 4 ≡ 2
past_the_last_mark_it_is_the_end_of_core = refl
