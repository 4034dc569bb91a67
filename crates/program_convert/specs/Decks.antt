-- Decks on tape (own): a record for each card, and a tape mark after the last.
use Rattle.std.specs.Prelude.{◌≡◌, ℕ, ⊤, ◌+◌, ◌-◌, ◌<◌, ◌*◌, nat_eq, nat_le, not, Bool, true, if◌then◌else◌, List, []}
use Rattle.std.specs.Prelude.{◌∷◌, ◌++◌}
use Rattle.std.specs.Prelude.{length, map, replicate, Result, Ok, Err}
use Rattle.std.specs.List.{flat_map, list_all}
use Rattle.bytes_descriptors.specs.FileSize.{most_reel_bytes}
use Rattle.devices_1401.specs.Card.{card_columns}
use Rattle.devices_1401.specs.declared.card.Card.{Card}
use Rattle.job_runner.specs.DeckText.{card_text}
use Rattle.machine_tapes.specs.Reel.{is_tape_mark, tape_mark}
use Rattle.program_arguments.specs.declared.call.Parity.{Parity}
use Rattle.program_arguments.specs.declared.call.Parity.TheVariants.{Even, Odd}
use Rattle.program_convert.specs.Parity.{a_alone, read_as, taped}
use Rattle.program_convert.specs.declared.reel_fault.ReelFault.{ReelFault}
use Rattle.program_convert.specs.declared.reel_fault.ReelFault.TheVariants as fault

-- the record of a card: all its columns
abbrev pub card_record : Parity → Card → List ℕ
card_record parity card = map (taped parity) card.0

-- the records of a deck
abbrev pub deck_records : Parity → List Card → List (List ℕ)
deck_records parity cards = map (card_record parity) cards ++ tape_mark ∷ []

-- the card of a record: its characters in the first columns, and then blanks
abbrev pub record_card : Parity → List ℕ → Card
record_card parity chars = record { 0 = map (read_as parity) chars ++ replicate (card_columns - length chars) 0 }

-- a card before the others of a deck
abbrev pub with_card : Card → Result (List Card) ℕ → Result (List Card) ℕ
with_card card (Ok cards) = Ok (card ∷ cards)
with_card card (Err number) = Err number

-- what the record of this number adds to the cards of those after it: nothing if it is a tape mark, and its card if it
-- isn't longer than one; else there are no cards, and the number says why
unfoldable pub cards_with : Parity → ℕ → List ℕ → Result (List Card) ℕ → Result (List Card) ℕ
cards_with parity number chars rest =
    if is_tape_mark chars then rest
    else if nat_le (length chars) card_columns then with_card (record_card parity chars) rest
    else Err number

-- the cards of records, from the record with this number on; or the number of the first that is longer than a card
unfoldable pub cards_from : Parity → ℕ → List (List ℕ) → Result (List Card) ℕ
cards_from parity number [] = Ok []
cards_from parity number (chars ∷ records) =
    cards_with parity number chars (cards_from parity (number + 1) records)

-- the cards of a reel with these records
abbrev pub reel_cards : Parity → List (List ℕ) → Result (List Card) ℕ
reel_cards parity records = cards_from parity 1 records

-- a text with that of cards after it
abbrev pub text_after : List ℕ → Result (List Card) ℕ → Result (List ℕ) ℕ
text_after text (Ok cards) = Ok (text ++ flat_map card_text cards)
text_after text (Err number) = Err number

-- the text of the deck of these records
abbrev pub reel_deck_text : Parity → List (List ℕ) → Result (List ℕ) ℕ
reel_deck_text parity records = text_after [] (reel_cards parity records)

-- Each card is read from tape as it was. In even parity the one character that isn't is bit A alone.
abbrev pub StayAsTheyAre : Parity → List Card → Type 0
StayAsTheyAre Odd cards = ⊤
StayAsTheyAre Even cards = list_all (λ (card : Card). list_all (λ char. not (nat_eq char a_alone)) card.0) cards ≡ true

-- why there is no reel of a deck: memory, or the text of the reel, with the tape mark, has more bytes than are read
abbrev pub IsWhyNoReelOf : List Card → ReelFault → Type 0
IsWhyNoReelOf cards (fault.File name why) = ⊥
IsWhyNoReelOf cards (fault.Reel why) = ⊥
IsWhyNoReelOf cards (fault.Record number) = ⊥
IsWhyNoReelOf cards fault.Full = most_reel_bytes < (card_columns + 8) * length cards + 4
IsWhyNoReelOf cards fault.Memory = ⊤
IsWhyNoReelOf cards fault.Output = ⊥
IsWhyNoReelOf cards (fault.Unwritten name) = ⊥
IsWhyNoReelOf cards (fault.OneFile first second) = ⊥

-- whether each card has all its columns
abbrev pub are_whole : List Card → Bool
are_whole cards = list_all (λ (card : Card). nat_eq (length card.0) card_columns) cards
