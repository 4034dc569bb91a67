-- The cells of an image, cut at word marks (own).
use Rattle.std.specs.Prelude.{◌≡◌, ◌≤◌, ℕ, not, ◌&&◌, if◌then◌else◌, List, [], ◌∷◌, ◌++◌, vec_capacity}
use Rattle.std.specs.List.{flat_map}
use Rattle.bcd_1401.specs.declared.cell.Cell.{Cell}
use Rattle.core_1401.specs.Cells.{most_cells}
use Rattle.machine_image.specs.declared.image.Segment.{Segment}
use Rattle.autocoder_placing.specs.Cells.{numbered}
use Rattle.autocoder_placing.specs.Segments.{closed, goes_on}
use Rattle.autocoder_placing.specs.declared.segments.Builder.{Builder}

-- the cells of segments in their order, each with its address
abbrev pub placed_cells : List Segment → List (ℕ × Cell)
placed_cells segments = flat_map (λ (segment : Segment). numbered segment.address segment.cells) segments

-- the stretches of the cells so far, and of those after them; a word mark begins one
abbrev pub cut : ℕ → List Cell → List (ℕ × Cell) → List Segment
cut at cells [] = closed at cells
cut at cells (next ∷ more) =
    if not next.1.mark && goes_on at cells next.0 then cut at (cells ++ next.1 ∷ []) more
    else closed at cells ++ cut next.0 (next.1 ∷ []) more

-- the stretches of segments: from each word mark up to the next one, or up to a gap, at most 40 cells
abbrev pub stretches_of : List Segment → List Segment
stretches_of segments = cut 0 [] (placed_cells segments)

-- the stretches, if these cells follow on what is built so far
abbrev pub built : Builder → List (ℕ × Cell) → List Segment
built this rest = this.done.items ++ cut this.address this.cells.items rest

-- what is built has no less room than before
abbrev pub KeepsCapacity : Builder → Builder → Type 0
KeepsCapacity old new =
    (vec_capacity old.done ≤ vec_capacity new.done) × (vec_capacity old.cells ≤ vec_capacity new.cells)

-- no stretch is closed, and there is room for those that a segment closes, and for the cells of one
abbrev pub IsReady : Builder → Type 0
IsReady this =
    (this.done.items ≡ []) × (most_cells ≤ vec_capacity this.done) × (most_cells ≤ vec_capacity this.cells)
