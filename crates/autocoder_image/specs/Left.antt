-- What is left of packed cells (own).
use Rattle.std.specs.Prelude.{ℕ, List, ◌++◌, replicate}
use Rattle.bcd_1401.specs.declared.cell.Cell.{Cell}
use Rattle.autocoder_placing.specs.Cells.{numbered, repeated}
use Rattle.autocoder_image.specs.declared.cells_left.CellsLeft.{CellsLeft}
use Rattle.autocoder_image.specs.Packed.{blocks_cells, parts_cells}

-- the cells of the block that is begun
abbrev pub begun_cells : CellsLeft → List Cell
begun_cells this =
    replicate this.count this.cell
    ++ (parts_cells this.rest.now ++ repeated this.times (parts_cells this.block.now))

-- those, and those of the blocks after it
abbrev pub cells_left : CellsLeft → List (ℕ × Cell)
cells_left this = numbered this.address (begun_cells this) ++ blocks_cells this.blocks.now this.parts.now
