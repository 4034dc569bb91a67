-- A program of two labels for the worked values, and a small machine.
use Rattle.std.proofs.Common.{ℕ, List, [], ◌∷◌, pos, Some, None}
use Rattle.std.specs.Prelude.{codes}
use Rattle.autocoder_listing.specs.declared.rows.Row.{Row}
use Rattle.autocoder_listing.specs.declared.symbol_table.Symbol.{Symbol}
use Rattle.autocoder_statements.specs.declared.language.Language.TheVariants.{Plain}
use Rattle.cpu_1401.specs.State.{State, power_on}
use Rattle.operate_orders.specs.declared.places.Adjustment.{Adjustment}
use Rattle.operate_orders.specs.declared.places.Base.{Base}
use Rattle.operate_orders.specs.declared.places.Base.TheVariants.{Label, Number}
use Rattle.operate_orders.specs.declared.places.Place.{Place}
use Rattle.operate_program.specs.Known.{Known}

-- START SW 1 at 20 in line 3, TOTAL DCW 00000000 from 33 to 40 in line 9
abbrev pub start : Symbol
start = record { label = record { text = codes "START " }; value = pos 20; length = Some 4; line = 3 }

abbrev pub total : Symbol
total = record { label = record { text = codes "TOTAL " }; value = pos 40; length = Some 8; line = 9 }

abbrev pub example_rows : List Row
example_rows =
    record { number = 3; address = pos 20; characters = codes ",001    " } ∷
    record { number = 9; address = pos 33; characters = codes "00000000" } ∷ []

abbrev pub program : Known
program = record { language = Plain; text = []; rows = example_rows; symbols = start ∷ total ∷ [] }

-- core storage of 60 places, and 7 in the A register
abbrev pub machine : State
machine = record (power_on 60) { a = 7 }

abbrev pub plain : Base → Place
plain base = record { base = base; adjustments = None ∷ None ∷ None ∷ [] }

abbrev pub adjusted_once : Base → Adjustment → Place
adjusted_once base adjustment = record { base = base; adjustments = Some adjustment ∷ None ∷ None ∷ [] }

abbrev pub label : List ℕ → Base
label text = Label text

abbrev pub number : ℕ → Base
number n = Number n
