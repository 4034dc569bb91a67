-- The cells so far are put.
use Rattle.std.proofs.Common.{◌≡◌, take}
use Rattle.cpu_1401.specs.CarryOut.{deposited}
use Rattle.cpu_1401.proofs.carrying.put_cells.Given as goal

abbrev pub invariant-loop-i : goal.invariant-loop-i
invariant-loop-i l =
    let first = l.initial.machine in
    l.machine ≡ record first { storage = deposited first.storage l.address (take l.i l.cells) }
