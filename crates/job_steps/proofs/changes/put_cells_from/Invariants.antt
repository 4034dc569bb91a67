-- All cells but those that are left.
use Rattle.std.proofs.Common.{◌-◌, drop, take}
use Rattle.bytes_text.specs.Written.{AddsBut}
use Rattle.machine_notation.specs.Cells.{cells_text}
use Rattle.job_steps.proofs.changes.put_cells_from.Given as goal

abbrev pub invariant-loop-place : goal.invariant-loop-place
invariant-loop-place l =
    AddsBut l.initial.text l.text (cells_text (take (l.end - l.place) (drop l.place l.core)))
    (cells_text (take (l.end - l.at) (drop l.at l.core)))
