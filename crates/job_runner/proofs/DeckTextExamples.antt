-- Lines of a deck, computed. The codes: 1 to 3 are the digits 1 to 3, 49 to 51 the letters A to C, 0 is blank.
use Rattle.std.proofs.Common.{◌≡◌, ℕ, List, [], ◌∷◌, ◌++◌, replicate, refl}
use Rattle.std.specs.Prelude.{codes, Ok, Err}
use Rattle.bcd_1401.specs.Graphic.{graphics}
use Rattle.devices_1401.specs.declared.card.Card.{Card}
use Rattle.job_runner.specs.declared.deck_text.DeckTextFault.TheVariants.{Graphic, Length}
use Rattle.job_runner.specs.DeckText.{card_of_line, deck_of}

abbrev card : List ℕ → Card
card chars = record { 0 = chars }

-- small letters are capitals, and the rest of the card is blank
a_short_line : card_of_line 1 (codes "1 aC") ≡ Ok (card (1 ∷ 0 ∷ 49 ∷ 51 ∷ replicate 76 0))
unfolding card_of_line graphics
a_short_line = refl

a_full_line : card_of_line 1 (replicate 80 65) ≡ Ok (card (replicate 80 49))
unfolding card_of_line graphics
a_full_line = refl

a_long_line : card_of_line 7 (replicate 81 65) ≡ Err (Length 7)
unfolding card_of_line graphics
a_long_line = refl

a_byte_that_no_card_has : card_of_line 7 (replicate 11 32 ++ codes "~~") ≡ Err (Graphic 7 12)
unfolding card_of_line graphics
a_byte_that_no_card_has = refl

-- the eightieth column is one, and what is after it isn't looked at
a_byte_in_the_last_column : card_of_line 1 (replicate 79 65 ++ codes "~A") ≡ Err (Graphic 1 80)
unfolding card_of_line graphics
a_byte_in_the_last_column = refl

a_byte_beyond_the_last_column : card_of_line 1 (replicate 80 65 ++ codes "~") ≡ Err (Length 1)
unfolding card_of_line graphics
a_byte_beyond_the_last_column = refl

-- a deck of three cards, of which the second is blank; a carriage return is no column
abbrev three : List Card
three =
    card (49 ∷ replicate 79 0) ∷ card (replicate 80 0) ∷ card (50 ∷ replicate 79 0) ∷ []

a_deck : deck_of (codes "A\r\n\nb") ≡ Ok three
unfolding card_of_line graphics
a_deck = refl

-- the first fault is told
a_deck_with_two_faults : deck_of (codes "A\nB~\n~\n") ≡ Err (Graphic 2 2)
unfolding card_of_line graphics
a_deck_with_two_faults = refl
