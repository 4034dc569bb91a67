-- The cells so far.
use Rattle.std.proofs.Common.{◌≡◌, drop, take}
use Rattle.operate_views.proofs.lines.cells_to_mark.Given as goal

abbrev pub invariant-loop-i : goal.invariant-loop-i
invariant-loop-i l = l.cells.items ≡ take l.i (drop l.at l.core)
