-- The columns of all cells but those that are left.
use Rattle.std.proofs.Common.{drop, map}
use Rattle.bytes_text.specs.Written.{AddsBut}
use Rattle.operate_views.specs.Ruler.{mark_column}
use Rattle.operate_views.proofs.ruler.put_marks.Given as goal

abbrev pub invariant-loop-cell : goal.invariant-loop-cell
invariant-loop-cell l =
    AddsBut l.initial.text l.text (map mark_column (drop l.cell-index l.cells)) (map mark_column l.cells)
