-- Core storage as the cells of a source fill it (own).
use Rattle.std.specs.Prelude.{ℕ, List, [], ◌∷◌, fold, length, replicate, slice_set}
use Rattle.bcd_1401.specs.declared.cell.Cell.{Cell}
use Rattle.core_1401.specs.Storage.{blank}
use Rattle.autocoder_statements.specs.declared.statement.Line.{Line}
use Rattle.autocoder_placing.specs.PlacedImage.{placed_cells}
use Rattle.autocoder_placing.specs.Cells.{address_or_zero, statement_cells}
use Rattle.autocoder_placing.specs.Placement.{Placement, placed_after, start_of, unplaced, placed}
use Rattle.autocoder_placing.specs.declared.filling.FilledPlaces.{FilledPlaces}

-- a cell more, at its address
abbrev pub with_cell : List Cell → ℕ × Cell → List Cell
with_cell storage cell = slice_set storage cell.0 cell.1

-- blank storage of this size with the cells that lines place, one after the other
abbrev pub filled : ℕ → List Line → List Cell
filled size lines = fold with_cell (replicate size blank) (placed_cells lines)

-- the address at which each line begins
abbrev pub addresses_from : Placement → List Line → List ℕ
addresses_from this [] = []
addresses_from this (line ∷ lines) = address_or_zero this.next ∷ addresses_from (placed_after this line) lines

abbrev pub addresses_of : List Line → List ℕ
addresses_of lines = addresses_from (unplaced (placed lines)) lines

-- the places of cells from this one on
abbrev pub filled_of : ℕ → List Cell → FilledPlaces
filled_of first cells = record { first = first; count = length cells }

-- the places that a line fills, with these lines after it
abbrev pub filled_by : Placement → Placement → Line → List Line → FilledPlaces
filled_by all this line lines =
    filled_of (address_or_zero (start_of this line.statement)) (statement_cells all this line.statement lines)

-- the places that each line fills
abbrev pub filled_from : Placement → Placement → List Line → List FilledPlaces
filled_from all this [] = []
filled_from all this (line ∷ lines) = filled_by all this line lines ∷ filled_from all (placed_after this line) lines

abbrev pub filled_places : List Line → List FilledPlaces
filled_places lines = filled_from (placed lines) (unplaced (placed lines)) lines
