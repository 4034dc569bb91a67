-- Cells to write examples with.
use Rattle.std.proofs.Common.{◌==◌, ℕ, Bool, true, false, List, [], ◌∷◌, map}
use Rattle.std.specs.Prelude.{position, unwrap_or}
use Rattle.bcd_1401.specs.Graphic.{graphics}
use Rattle.bcd_1401.specs.declared.cell.Cell.{Cell}

unfoldable pub cell : Bool → ℕ → Cell
unfolding graphics
cell mark graphic = record { char = unwrap_or (position (λ each. each == graphic) graphics) 0; mark = mark }

-- the cells with these graphics, the first with a word mark
unfoldable pub cells : List ℕ → List Cell
unfolding cell
cells [] = []
cells (first ∷ more) = cell true first ∷ map (cell false) more
