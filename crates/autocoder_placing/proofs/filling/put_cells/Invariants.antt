-- What storage holds, with the cells that are left put into it, is what it holds with all.
use Rattle.std.proofs.Common.{◌≡◌, drop}
use Rattle.std.specs.Prelude.{fold}
use Rattle.autocoder_placing.specs.Cells.{numbered}
use Rattle.autocoder_placing.specs.Filling.{with_cell}
use Rattle.autocoder_placing.proofs.filling.put_cells.Given as goal

abbrev pub invariant-loop-cell : goal.invariant-loop-cell
invariant-loop-cell l =
    fold with_cell l.storage (numbered l.at (drop l.cell-index l.cells))
    ≡ fold with_cell l.initial.storage (numbered l.address l.cells)
