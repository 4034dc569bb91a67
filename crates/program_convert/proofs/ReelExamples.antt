-- Worked values of the listing of a reel and of decks on tape.
use Rattle.std.proofs.Common.{◌≡◌, List, ℕ, [], ◌∷◌, Ok, Err, refl, replicate}
use Rattle.std.specs.Prelude.{codes}
use Rattle.bcd_1401.specs.Graphic.{graphics}
use Rattle.machine_tapes.specs.Reel.{tape_mark}
use Rattle.program_arguments.specs.declared.call.Parity.TheVariants.{Even, Odd}
use Rattle.program_convert.specs.Decks.{cards_from, cards_with, record_card, reel_cards}
use Rattle.program_convert.specs.ReelListing.{before_char, chars_text}

-- A, bit A alone and B
abbrev a_b : List ℕ
a_b = 49 ∷ 16 ∷ 50 ∷ []

-- In even parity bit A alone is a blank.
odd_characters : chars_text Odd 0 a_b ≡ codes " A^B"
unfolding chars_text before_char graphics
odd_characters = refl

even_characters : chars_text Even 0 a_b ≡ codes " A B"
unfolding chars_text before_char graphics
even_characters = refl

-- The characters after 80 are on a line of their own.
the_line_after_eighty : chars_text Odd 79 (a_b) ≡ codes "A\n             ^B"
unfolding chars_text before_char graphics
the_line_after_eighty = refl

a_mark_is_no_card : reel_cards Even (a_b ∷ tape_mark ∷ []) ≡ Ok (record_card Odd (49 ∷ 0 ∷ 50 ∷ []) ∷ [])
unfolding cards_from cards_with
a_mark_is_no_card = refl

a_long_record : reel_cards Odd (tape_mark ∷ replicate 81 49 ∷ []) ≡ Err 2
unfolding cards_from cards_with
a_long_record = refl
