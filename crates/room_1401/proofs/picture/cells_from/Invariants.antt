-- The cells so far are those from the address on.
use Rattle.std.proofs.Common.{◌≡◌, length, take}
use Rattle.cpu_1401.specs.CarryOut.{examined}
use Rattle.room_1401.specs.Picture.{window_cells}
use Rattle.room_1401.proofs.picture.cells_from.Given as goal

abbrev pub invariant-loop-i : goal.invariant-loop-i
invariant-loop-i l =
    (length l.cells ≡ window_cells) × (take l.i l.cells ≡ examined l.core l.address l.i)
