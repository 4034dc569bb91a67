-- The columns so far.
use Rattle.std.proofs.Common.{◌≡◌, ◌-◌, map}
use Rattle.std.specs.List.{range_with_len}
use Rattle.operate_views.specs.Ruler.{shown_at}
use Rattle.operate_views.proofs.ruler.row_cells.Given as goal

abbrev pub invariant-loop-at : goal.invariant-loop-at
invariant-loop-at l = l.cells.items ≡ map (shown_at l.core l.first l.end) (range_with_len l.row (l.at - l.row))
