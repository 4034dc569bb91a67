-- Word marks as bits, computed: 4 has the bit of address 2.
use Rattle.std.proofs.Common.{◌≡◌, true, false, [], ◌∷◌, refl}
use Rattle.core_1401.specs.MarkWords.{bit_for, mark_bit, held}

address_0_has_the_lowest_bit : bit_for (1 ∷ 0 ∷ []) 0 ≡ 1
address_0_has_the_lowest_bit = refl

address_63_has_the_highest_bit : bit_for (9223372036854775808 ∷ 0 ∷ []) 63 ≡ 1
address_63_has_the_highest_bit = refl

address_64_begins_the_second_word : bit_for (0 ∷ 1 ∷ []) 64 ≡ 1
address_64_begins_the_second_word = refl

one_word_stands_before_the_first : mark_bit (0 ∷ 4 ∷ 0 ∷ []) 2 ≡ 1
one_word_stands_before_the_first = refl

characters_and_words_are_cells : held (5 ∷ 6 ∷ 7 ∷ []) (0 ∷ 4 ∷ 0 ∷ [])
    ≡ record { char = 5; mark = false } ∷ record { char = 6; mark = false } ∷ record { char = 7; mark = true } ∷ []
unfolding held
characters_and_words_are_cells = refl
