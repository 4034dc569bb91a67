-- A card as a text (own): its characters by graphics, one for each column.
use Rattle.std.specs.Prelude.{ℕ, ◌-◌, nat_le, if◌then◌else◌, List, ◌++◌, length, take, replicate}
use Rattle.std.specs.Prelude.{filter_map, Option, is_some, Result, Ok, Err}
use Rattle.std.specs.List.{list_all}
use Rattle.devices_1401.specs.Card.{card_columns}
use Rattle.devices_1401.specs.declared.card.Card.{Card}
use Rattle.machine_notation.specs.Characters.{blank_code}
use Rattle.console_text.specs.declared.line.LineFault.{LineFault}
use Rattle.console_text.specs.declared.line.LineFault.TheVariants.{Graphic, Length}

-- a card with these characters in its first columns
abbrev pub card_with : List ℕ → Card
card_with chars = record { 0 = chars ++ replicate (card_columns - length chars) blank_code }

-- at most 80 characters; but one of the first 80 that isn't there is a fault before their number is
unfoldable pub card_of : List (Option ℕ) → Result Card LineFault
card_of chars =
    if list_all is_some (take card_columns chars)
    then (if nat_le (length chars) card_columns then Ok (card_with (filter_map (λ char. char) chars)) else Err Length)
    else Err Graphic
