-- The places so far are as they were; so the others decide.
use Rattle.std.proofs.Common.{◌≡◌, ◌+◌, drop}
use Rattle.operate_sitting.specs.PlaceWatch.{differs}
use Rattle.operate_sitting.proofs.place_watch.differ.Given as goal

abbrev pub invariant-loop-i : goal.invariant-loop-i
invariant-loop-i l = differs l.core l.from l.cells ≡ differs l.core (l.from + l.i) (drop l.i l.cells)
