-- The cells that are left, put after what is built, give what all cells give.
use Rattle.std.proofs.Common.{◌≡◌, ◌++◌, ℕ, List, drop}
use Rattle.bcd_1401.specs.declared.cell.Cell.{Cell}
use Rattle.autocoder_placing.specs.Built.{built}
use Rattle.autocoder_placing.specs.Cells.{numbered}
use Rattle.autocoder_placing.proofs.segments.Builder.put_all.Given as goal

abbrev pub invariant-loop-cell : goal.invariant-loop-cell
invariant-loop-cell l =
    (rest : List (ℕ × Cell)) → built l.self (numbered l.at (drop l.cell-index l.cells) ++ rest)
    ≡ built l.initial.self (numbered l.address l.cells ++ rest)
