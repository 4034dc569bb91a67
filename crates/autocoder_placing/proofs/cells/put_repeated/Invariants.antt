-- What is put, with as many areas as are left, is all of it.
use Rattle.std.proofs.Common.{◌≡◌, ◌++◌}
use Rattle.autocoder_placing.specs.Cells.{repeated}
use Rattle.autocoder_placing.proofs.cells.put_repeated.Given as goal

abbrev pub invariant-loop-left : goal.invariant-loop-left
invariant-loop-left l = l.out.items ++ repeated l.left l.area ≡ l.initial.out.items ++ repeated l.count l.area

abbrev pub decreases-loop-left : goal.decreases-loop-left
decreases-loop-left l = l.left
