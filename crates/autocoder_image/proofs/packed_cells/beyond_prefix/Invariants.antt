-- The cells so far, and those that are left.
use Rattle.std.proofs.Common.{◌≡◌, ◌++◌, take}
use Rattle.autocoder_image.proofs.packed_cells.beyond_prefix.Given as goal

abbrev pub invariant-loop-cell : goal.invariant-loop-cell
invariant-loop-cell l = l.cells ≡ take l.cell-index l.first ++ l.left
