-- The segments of an image (own).
use Rattle.std.specs.Prelude.{ℕ, ◌+◌, ◌==◌, Bool, ◌&&◌, nat_le, nat_lt, if◌then◌else◌, List, [], ◌∷◌, ◌++◌, length}
use Rattle.bcd_1401.specs.declared.cell.Cell.{Cell}
use Rattle.core_1401.specs.Address.{addresses}
use Rattle.core_1401.specs.Cells.{most_cells}
use Rattle.machine_image.specs.declared.image.Segment.{Segment}

-- an address; one that is none counts as 0, and is a fault of its line
abbrev pub start_or_zero : ℕ → ℕ
start_or_zero at = if nat_lt at addresses then at else 0

-- a segment with these cells, if there are any
abbrev pub closed : ℕ → List Cell → List Segment
closed at cells = if nat_le 1 (length cells) && nat_le (length cells) most_cells
    then record { address = start_or_zero at; cells = cells } ∷ [] else []

-- a cell at this address goes on with a segment
abbrev pub goes_on : ℕ → List Cell → ℕ → Bool
goes_on at cells next = (next == at + length cells) && nat_lt (length cells) most_cells

-- the segments of the cells so far, and of those after them
abbrev pub cut : ℕ → List Cell → List (ℕ × Cell) → List Segment
cut at cells [] = closed at cells
cut at cells (next ∷ more) =
    if goes_on at cells next.0 then cut at (cells ++ next.1 ∷ []) more else closed at cells
    ++ cut next.0 (next.1 ∷ []) more

-- the segments of cells in the order of placing
abbrev pub segments_of : List (ℕ × Cell) → List Segment
segments_of cells = cut 0 [] cells
