-- The cells so far.
use Rattle.std.proofs.Common.{◌≡◌, take}
use Rattle.core_1401.specs.Field.{cells_down}
use Rattle.operate_views.proofs.fields.cells_down.Given as goal

abbrev pub invariant-loop-i : goal.invariant-loop-i
invariant-loop-i l = l.cells.items ≡ take l.i (cells_down l.core l.at)
