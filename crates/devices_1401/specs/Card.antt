-- The columns of a card (A24-1403, "Character Code").
use Rattle.std.specs.Prelude.{ℕ, ◌≢◌, ◌<◌, List, length, map, slice_index}
use Rattle.bcd_1401.specs.CardCode.{column_of}
use Rattle.devices_1401.specs.declared.card.Card.{Card}

-- the columns of a card, each a number of twelve bits
abbrev pub columns_of : Card → List ℕ
columns_of card = map column_of card.0

-- one of the columns is that of no character
abbrev pub NoCard : List ℕ → Type 0
NoCard columns = (k : ℕ) × ((k < length columns) × ((char : ℕ) → char < 64 → column_of char ≢ slice_index columns k))

-- how many there are
abbrev pub card_columns : ℕ
card_columns = 80
