-- Cards by the characters that their lines have: how many each has, and the characters of all (own).
use Rattle.std.specs.Prelude.{◌≡◌, ◌≤◌, ℕ, ◌+◌, ◌-◌, zero, suc, List, [], ◌∷◌, ◌++◌, length, take, drop, replicate}
use Rattle.devices_1401.specs.Card.{card_columns}
use Rattle.devices_1401.specs.declared.card.Card.{Card}
use Rattle.job_runner.specs.declared.card_list.Place.{Place}
use Rattle.machine_notation.specs.Characters.{blank_code}

-- a card with these characters in its first columns, and then blanks
abbrev pub card_of_chars : List ℕ → Card
card_of_chars chars = record { 0 = chars ++ replicate (card_columns - length chars) blank_code }

-- the cards, each with its number of the characters
abbrev pub cards_in : List ℕ → List ℕ → List Card
cards_in [] chars = []
cards_in (len ∷ lens) chars = card_of_chars (take len chars) ∷ cards_in lens (drop len chars)

-- each card has its characters, 80 at most, and none is left over
abbrev pub AreOfCards : List ℕ → List ℕ → Type 0
AreOfCards [] chars = chars ≡ []
AreOfCards (len ∷ lens) chars = (len ≤ card_columns) × (len ≤ length chars) × AreOfCards lens (drop len chars)

-- how many characters the first cards have, so many
abbrev pub place_of : ℕ → List ℕ → ℕ
place_of zero lens = 0
place_of (suc cards) [] = 0
place_of (suc cards) (len ∷ lens) = len + place_of cards lens

-- a card comes after these, or they are all
abbrev pub IsPlace : Place → List ℕ → Type 0
IsPlace place lens = (place.cards ≤ length lens) × (place.chars ≡ place_of place.cards lens)
