-- The characters so far, with those of the cells that are left.
use Rattle.std.proofs.Common.{◌≡◌, ◌++◌, drop}
use Rattle.operate_views.specs.Ruler.{chars_of}
use Rattle.operate_views.proofs.ruler.chars_of.Given as goal

abbrev pub invariant-loop-cell : goal.invariant-loop-cell
invariant-loop-cell l = l.chars.items ++ chars_of (drop l.cell-index l.cells) ≡ chars_of l.cells
