-- The cells that are left, put after what is built, give what all cells give.
use Rattle.std.proofs.Common.{◌≡◌, ◌+◌, ◌++◌, ◌≤◌, ℕ, List, drop, length}
use Rattle.bcd_1401.specs.declared.cell.Cell.{Cell}
use Rattle.autocoder_placing.specs.Cells.{numbered}
use Rattle.autocoder_deck.specs.Stretches.{built, KeepsCapacity}
use Rattle.autocoder_deck.proofs.stretches.put_all.Given as goal

abbrev pub invariant-loop-cell : goal.invariant-loop-cell
invariant-loop-cell l =
    (l.at ≡ l.address + l.cell-index)
    × (length l.builder.done.items ≤ length l.initial.builder.done.items + l.cell-index)
    × KeepsCapacity l.initial.builder l.builder
    × ((rest : List (ℕ × Cell)) → built l.builder (numbered l.at (drop l.cell-index l.cells) ++ rest)
    ≡ built l.initial.builder (numbered l.address l.cells ++ rest))
