-- All but the cells that are left.
use Rattle.std.proofs.Common.{drop}
use Rattle.std.specs.List.{flat_map}
use Rattle.bytes_text.specs.Written.{AddsBut}
use Rattle.machine_notation.specs.Cells.{cell_text}
use Rattle.operate_answers.proofs.counted.put_each_cell.Given as goal

abbrev pub invariant-loop-cell : goal.invariant-loop-cell
invariant-loop-cell l =
    AddsBut l.initial.text l.text (flat_map cell_text (drop l.cell-index l.cells)) (flat_map cell_text l.cells)
