-- The card reader, the punch and the printer as lists (A24-1403, "IBM 1402 Card Read-Punch", "IBM 1403 Printer"; how
-- much they hold is own).
use Rattle.std.specs.Prelude.{ℕ, ◌-◌, List, [], ◌∷◌, ◌++◌, Bool, Option, length, drop, nat_le, slice_get}
pub use Rattle.devices_1401.specs.Control.{Control, Space, Skip}
pub use Rattle.devices_1401.specs.Carriage.{Carriage, first_line, form_of, line_of}
use Rattle.devices_1401.specs.Carriage.{after_print}
use Rattle.devices_1401.specs.declared.card.Card.{Card}
use Rattle.devices_1401.specs.declared.print_line.PrintLine.{PrintLine}

-- the cards to be read, the cards punched and the lines printed, each oldest first, and the carriage
pub record Devices : Type 0 where
  pub hopper : List Card
  pub stacker : List Card
  pub paper : List PrintLine
  pub carriage : Carriage

-- nothing in the hopper, in the stacker and on the paper
abbrev pub no_cards : Devices
no_cards = record { hopper = []; stacker = []; paper = []; carriage = first_line }

-- the most cards that the hopper and the stacker hold, and the most printed lines that wait to be taken
abbrev pub most_held : ℕ
most_held = 500

-- whether a list has no room for one more
abbrev pub is_full : {X : Type 0} → List X → Bool
is_full xs = nat_le most_held (length xs)

-- a card added to the hopper, after those in it
abbrev pub fed : Devices → Card → Devices
fed devices card = record devices { hopper = devices.hopper ++ card ∷ [] }

-- a card punched into the stacker, after those in it
abbrev pub punched : Devices → Card → Devices
punched devices card = record devices { stacker = devices.stacker ++ card ∷ [] }

-- the line that is printed at the carriage's position
abbrev pub line_at : Carriage → List ℕ → PrintLine
line_at carriage text = record { form = form_of carriage; line = line_of carriage; text = text }

-- a line printed after those on the paper, and the carriage moved
abbrev pub printed : Devices → List ℕ → Devices
printed devices text = record devices {
  paper = devices.paper ++ line_at devices.carriage text ∷ [];
  carriage = after_print devices.carriage;
}

-- without the first card of the hopper
abbrev pub after_read : Devices → Devices
after_read devices = record devices { hopper = drop 1 devices.hopper }

-- without the first card of the stacker
abbrev pub after_card : Devices → Devices
after_card devices = record devices { stacker = drop 1 devices.stacker }

-- without the first line of the paper
abbrev pub after_line : Devices → Devices
after_line devices = record devices { paper = drop 1 devices.paper }

-- the first card of the hopper, which is read next
abbrev pub next_card : Devices → Option Card
next_card devices = slice_get devices.hopper 0

-- the newest card of the stacker, which was punched last
abbrev pub last_punched : Devices → Option Card
last_punched devices = slice_get devices.stacker (length devices.stacker - 1)
