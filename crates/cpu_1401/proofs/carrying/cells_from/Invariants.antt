-- The cells so far are those from the address on.
use Rattle.std.proofs.Common.{◌≡◌, take}
use Rattle.cpu_1401.specs.CarryOut.{examined}
use Rattle.cpu_1401.proofs.carrying.cells_from.Given as goal

abbrev pub invariant-loop-i : goal.invariant-loop-i
invariant-loop-i l = take l.i l.cells ≡ examined l.core l.address l.i
