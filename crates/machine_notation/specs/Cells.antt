-- Cells by their graphics, with a tilde before one that has a word mark (own).
use Rattle.std.specs.Prelude.{ℕ, ◌==◌, nat_le, Bool, true, false, ◌&&◌, if◌then◌else◌, List, [], ◌∷◌, length, take}
use Rattle.std.specs.Prelude.{slice_index, position, filter_map, Option, is_some, Result, Ok, Err}
use Rattle.std.specs.Option.{option_map}
use Rattle.std.specs.List.{flat_map, list_all}
use Rattle.bcd_1401.specs.declared.cell.Cell.{Cell}
use Rattle.bcd_1401.specs.Graphic.{graphics}
use Rattle.core_1401.specs.Cells.{most_cells}
use Rattle.machine_notation.specs.declared.fault.CellsFault.{CellsFault}
use Rattle.machine_notation.specs.declared.fault.CellsFault.TheVariants.{Graphic, Length}

-- it precedes a cell with a word mark
abbrev pub tilde : ℕ
tilde = 126

-- a cell by its graphic, with a tilde before it if it has a word mark
abbrev pub cell_text : Cell → List ℕ
cell_text cell = if cell.mark then tilde ∷ slice_index graphics cell.char ∷ [] else slice_index graphics cell.char ∷ []

-- cells one after another, blanks at the end too
unfoldable pub cells_text : List Cell → List ℕ
cells_text cells = flat_map cell_text cells

-- the cell with this graphic
abbrev pub cell_of : Bool → ℕ → Option Cell
cell_of mark byte = option_map (λ char. record { char = char; mark = mark }) (position (λ each. each == byte) graphics)

-- the cells that a text spells, each by its graphic, and one with a word mark by a tilde in front of it; where there is
-- no graphic there is no cell
unfoldable pub spelled : List ℕ → List (Option Cell)
spelled [] = []
spelled (byte ∷ []) = cell_of false byte ∷ []
spelled (byte ∷ next ∷ more) =
    if byte == tilde then cell_of true next ∷ spelled more else cell_of false byte ∷ spelled (next ∷ more)

-- 1 to 40 cells; but one of the first 40 that isn't there is a fault before their number is
unfoldable pub cells_of : List (Option Cell) → Result (List Cell) CellsFault
cells_of cells =
    if list_all is_some (take most_cells cells)
    then (if nat_le 1 (length cells) && nat_le (length cells) most_cells
    then Ok (filter_map (λ cell. cell) cells) else Err Length)
    else Err Graphic
