-- All cells but those that are left.
use Rattle.std.proofs.Common.{drop}
use Rattle.bytes_text.specs.Written.{AddsBut}
use Rattle.machine_notation.specs.Cells.{cells_text}
use Rattle.job_steps.proofs.fetched.put_cells.Given as goal

abbrev pub invariant-loop-cell : goal.invariant-loop-cell
invariant-loop-cell l =
    AddsBut l.initial.text l.text (cells_text (drop l.cell-index l.cells)) (cells_text l.cells)
