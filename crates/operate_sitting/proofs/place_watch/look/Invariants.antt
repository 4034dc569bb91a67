-- The places so far are written down, and the others aren't yet.
use Rattle.std.proofs.Common.{◌≡◌, ◌++◌, drop}
use Rattle.operate_sitting.specs.PlaceWatch.{cells_in}
use Rattle.operate_sitting.proofs.place_watch.look.Given as goal

abbrev pub invariant-loop-i : goal.invariant-loop-i
invariant-loop-i l = l.cells ≡ cells_in l.core l.from l.i ++ drop l.i l.fn.cells
