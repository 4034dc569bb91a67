-- A deck as a text (own): a card on each line, without trailing blanks.
use Rattle.std.specs.Char.{to_ascii_uppercase}
use Rattle.std.specs.List.{prefix_len}
use Rattle.std.specs.Prelude.{ℕ, ◌+◌, ◌-◌, ◌==◌, nat_lt, if◌then◌else◌, Bool, List, [], ◌∷◌, ◌++◌, length, map, min}
use Rattle.std.specs.Prelude.{replicate, Option, is_some, position, unwrap_or, Result, Ok, Err}
use Rattle.bcd_1401.specs.Graphic.{graphics}
use Rattle.devices_1401.specs.Card.{card_columns}
use Rattle.devices_1401.specs.declared.card.Card.{Card}
use Rattle.machine_notation.specs.Bytes.{line_feed}
use Rattle.machine_notation.specs.Characters.{blank_code, graphics_of, trimmed}
use Rattle.autocoder_statements.specs.SourceLine.{lines_of}
use Rattle.job_runner.specs.declared.deck_text.DeckTextFault.{DeckTextFault}
use Rattle.job_runner.specs.declared.deck_text.DeckTextFault.TheVariants.{Graphic, Length}

-- the line of a card
abbrev pub card_text : Card → List ℕ
card_text card = graphics_of (trimmed card.0) ++ line_feed ∷ []

-- the character with this graphic, that of its capital for a small letter; none for a byte that no card has
abbrev pub char_of : ℕ → Option ℕ
char_of byte = position (λ each. each == to_ascii_uppercase byte) graphics

-- whether a byte has a character, and that character's code
abbrev pub has_char : ℕ → Bool
has_char byte = is_some (char_of byte)

abbrev pub code_of : ℕ → ℕ
code_of byte = unwrap_or (char_of byte) blank_code

-- how many columns a line fills: up to its first byte that no card has, and at most 80
abbrev pub columns_filled : List ℕ → ℕ
columns_filled line = min card_columns (prefix_len has_char line)

-- a card with a line in its first columns, and then blanks
abbrev pub card_with : List ℕ → Card
card_with line = record { 0 = map code_of line ++ replicate (card_columns - length line) blank_code }

-- what is wrong after this many columns: no card has the next byte, or a card has no further column
abbrev pub fault_beyond : ℕ → ℕ → DeckTextFault
fault_beyond number columns = if nat_lt columns card_columns then Graphic number (columns + 1) else Length number

-- the card of a line with this number, or its fault if it has a byte that fills no column
unfoldable pub card_of_line : ℕ → List ℕ → Result Card DeckTextFault
card_of_line number line =
    if columns_filled line == length line then Ok (card_with line) else Err (fault_beyond number (columns_filled line))

-- a card before the others of a deck; the first fault counts
abbrev pub card_before : Result Card DeckTextFault → Result (List Card) DeckTextFault → Result (List Card) DeckTextFault
card_before (Err fault) deck = Err fault
card_before (Ok card) (Err fault) = Err fault
card_before (Ok card) (Ok cards) = Ok (card ∷ cards)

-- the cards of lines, the first of which has this number
abbrev pub deck_from : ℕ → List (List ℕ) → Result (List Card) DeckTextFault
deck_from number [] = Ok []
deck_from number (line ∷ lines) = card_before (card_of_line number line) (deck_from (number + 1) lines)

-- the deck of a text: a card for each line, or the first line's fault that has one
abbrev pub deck_of : List ℕ → Result (List Card) DeckTextFault
deck_of text = deck_from 1 (lines_of text)
