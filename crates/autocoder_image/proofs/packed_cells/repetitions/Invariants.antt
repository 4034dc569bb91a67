-- The cells are the first ones, so often, and those that are left.
use Rattle.std.proofs.Common.{◌≡◌, ◌++◌, ◌-◌}
use Rattle.autocoder_placing.specs.Cells.{repeated}
use Rattle.autocoder_image.proofs.packed_cells.repetitions.Given as goal

abbrev pub invariant-loop-times : goal.invariant-loop-times
invariant-loop-times l = l.cells ≡ repeated l.times l.first ++ l.rest

abbrev pub decreases-loop-times : goal.decreases-loop-times
decreases-loop-times l = 65535 - l.times
