-- Places written at once, computed.
use Rattle.std.proofs.Common.{◌≡◌, ℕ, ◌+◌, true, false, [], ◌∷◌, refl}
use Rattle.bcd_1401.specs.declared.cell.Cell.{Cell}
use Rattle.core_1401.specs.Places.{with_cells, with_chars, is_unequal_pair}
use Rattle.core_1401.specs.Storage.{Storage, blank}

abbrev plain : ℕ → Cell
plain char = record { char = char; mark = false }

abbrev marked : ℕ → Cell
marked char = record { char = char; mark = true }

abbrev four : Storage
four = plain 1 ∷ marked 2 ∷ plain 3 ∷ plain 4 ∷ []

-- the units come first: 20 goes to place 2, and 21 to place 1 below it
two_characters_go_down : with_chars four 2 2 (λ i. 20 + i) ≡ plain 1 ∷ marked 21 ∷ plain 20 ∷ plain 4 ∷ []
unfolding with_chars with_cells
two_characters_go_down = refl

two_places_are_cleared : with_cells four 2 2 (λ i. blank) ≡ plain 1 ∷ blank ∷ blank ∷ plain 4 ∷ []
unfolding with_cells
two_places_are_cleared = refl

the_units_differ : is_unequal_pair four 3 2 0 ≡ true
the_units_differ = refl

a_place_is_like_itself : is_unequal_pair four 3 3 1 ≡ false
a_place_is_like_itself = refl
