-- Cells by the codes of their characters, or by their graphics, for worked values.
use Rattle.std.specs.Prelude.{ℕ, ◌==◌, Bool, true, false, List, [], ◌∷◌, if◌then◌else◌}
use Rattle.std.specs.List.{position_or_len}
use Rattle.bcd_1401.specs.Graphic.{graphics}
use Rattle.bcd_1401.specs.declared.cell.Cell.{Cell}
use Rattle.core_1401.specs.Storage.{Storage}
use Rattle.cpu_1401.specs.State.{State, power_on}

abbrev pub plain : ℕ → Cell
plain char = record { char = char; mark = false }

abbrev pub marked : ℕ → Cell
marked char = record { char = char; mark = true }

-- the machine at power-on with this storage, and with I at a place
abbrev pub with_program : Storage → ℕ → State
with_program storage at = record (power_on 0) { storage = storage; i = at }

-- the cells of a text: the first has this word mark, and each with a ~ in front of it has one
abbrev pub cells_from : Bool → List ℕ → Storage
cells_from mark [] = []
cells_from mark (graphic ∷ text) =
    if graphic == 126 then cells_from true text
    else record { char = position_or_len (λ each. each == graphic) graphics; mark = mark } ∷ cells_from false text

-- a ~ stands in front of each cell with a word mark
abbrev pub cells_of : List ℕ → Storage
cells_of text = cells_from false text
