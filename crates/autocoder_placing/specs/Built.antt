-- What segments are built so far.
use Rattle.std.specs.Prelude.{ℕ, List, ◌++◌}
use Rattle.bcd_1401.specs.declared.cell.Cell.{Cell}
use Rattle.machine_image.specs.declared.image.Segment.{Segment}
use Rattle.autocoder_placing.specs.Segments.{cut}
use Rattle.autocoder_placing.specs.declared.segments.Builder.{Builder}

-- the segments, if these cells follow
abbrev pub built : Builder → List (ℕ × Cell) → List Segment
built this rest = this.done.items ++ cut this.address this.cells.items rest
