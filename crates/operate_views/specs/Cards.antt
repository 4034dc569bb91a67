-- The hopper and the stacker in words (own): how many cards there are, and some of them.
use Rattle.std.specs.Prelude.{ℕ, ◌-◌, ◌==◌, if◌then◌else◌, List, [], ◌∷◌, ◌++◌, codes, length, Option, None, Some}
use Rattle.std.specs.List.{concat, flat_map}
use Rattle.devices_1401.specs.Devices.{Devices, last_punched}
use Rattle.devices_1401.specs.declared.card.Card.{Card}
use Rattle.machine_notation.specs.Characters.{graphics_of, trimmed}
use Rattle.machine_notation.specs.Digits.{digits_in}

unfoldable pub count_text : ℕ → List ℕ
count_text count = if count == 1 then codes "1 card\n" else concat (digits_in 1 count ∷ codes " cards\n" ∷ [])

-- a card, without the blanks at its end
unfoldable pub card_text : Card → List ℕ
card_text card = concat (codes "  |" ∷ graphics_of (trimmed card.0) ∷ codes "\n" ∷ [])

-- this many cards more, if there are any
unfoldable pub more_text : ℕ → List ℕ
more_text more = if more == 0 then [] else concat (codes "  and " ∷ digits_in 1 more ∷ codes " more\n" ∷ [])

-- this many cards, some of them shown
unfoldable pub pile_text : ℕ → List Card → List ℕ
pile_text count cards =
    if count == 0 then codes "empty\n"
    else count_text count ++ flat_map card_text cards ++ more_text (count - length cards)

-- this many cards in the hopper, the first of them shown
unfoldable pub hopper_text : ℕ → List Card → List ℕ
hopper_text count cards = codes "hopper: " ++ pile_text count cards

-- the last card that was punched, if there is one
unfoldable pub last_text : Option Card → List ℕ
last_text None = []
last_text (Some card) = card_text card

unfoldable pub stacker_text : Devices → List ℕ
stacker_text devices =
    let count = length devices.stacker in
    codes "stacker: "
    ++ (if count == 0 then codes "empty\n" else count_text count ++ last_text (last_punched devices))
