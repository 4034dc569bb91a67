-- Addresses and index registers, computed. The codes are 26 for the record mark, 10 for zero, 57 for I, 25 for Z.
use Rattle.std.proofs.Common.{◌≡◌, ℕ, false, [], ◌∷◌, ◌++◌, replicate, refl}
use Rattle.bcd_1401.specs.declared.cell.Cell.{Cell}
use Rattle.core_1401.specs.Address.{value_of, spelling_of, is_spelled, effective_at}
use Rattle.core_1401.specs.Storage.{Storage, blank}

the_record_mark_and_two_zeros_are_1000 : value_of 26 10 10 ≡ 1000
the_record_mark_and_two_zeros_are_1000 = refl

the_last_address_is_15999 : value_of 57 9 57 ≡ 15999
the_last_address_is_15999 = refl

blanks_are_0 : value_of 0 0 0 ≡ 0
blanks_are_0 = refl

a_zone_over_the_tens_has_no_value : value_of 57 25 57 ≡ 15999
a_zone_over_the_tens_has_no_value = refl

thousand_is_spelled : spelling_of 1000 ≡ 26 ∷ 10 ∷ 10 ∷ []
thousand_is_spelled = refl

the_last_address_is_spelled : spelling_of 15999 ≡ 57 ∷ 9 ∷ 57 ∷ []
the_last_address_is_spelled = refl

blanks_are_no_spelling : is_spelled 0 0 0 ≡ false
blanks_are_no_spelling = refl

abbrev cell : ℕ → Cell
cell char = record { char = char; mark = false }

-- 15,999 with index register 1, which holds 3
abbrev indexed : Storage
indexed = cell 57 ∷ cell 25 ∷ cell 57 ∷ (replicate 84 blank ++ cell 10 ∷ cell 10 ∷ cell 3 ∷ [])

the_register_is_added_round_the_last_address : effective_at indexed 0 ≡ 2
the_register_is_added_round_the_last_address = refl
