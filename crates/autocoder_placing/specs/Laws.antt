-- What is said of the whole above what each line does: the first line with something outside, and the segments (own).
use Rattle.std.specs.Prelude.{◌≡◌, ℕ, ◌+◌, ◌<◌, ◌==◌, Bool, true, false, not, ◌&&◌, ◌||◌, nat_le, List, [], ◌∷◌, length}
use Rattle.std.specs.Prelude.{take, slice_index_or}
use Rattle.std.specs.List.{flat_map, list_all}
use Rattle.bcd_1401.specs.declared.cell.Cell.{Cell}
use Rattle.core_1401.specs.Cells.{most_cells}
use Rattle.machine_image.specs.declared.image.Segment.{Segment}
use Rattle.autocoder_statements.specs.declared.statement.Line.{Line}
use Rattle.autocoder_symbols.specs.declared.fault.AsmFault.{AsmFault}
use Rattle.autocoder_symbols.specs.declared.fault.AsmKind.TheVariants as kinds
use Rattle.autocoder_placing.specs.Cells.{numbered}
use Rattle.autocoder_placing.specs.Placement.{placed, placed_among}
use Rattle.autocoder_placing.specs.Values.{line_outside}

-- whether something of a line that follows the first k lines isn't in core
abbrev pub outside_at : ℕ → List Line → ℕ → Line → Bool
outside_at size lines k line = line_outside size (placed lines) (placed_among lines (take k lines)) line

-- something of the line that the fault names isn't in core, and all of each line before it is
pub record IsFirstOutside (size : ℕ) (lines : List Line) (fault : AsmFault) : Type 0 where
  pub index : ℕ
  pub kind : fault.kind ≡ kinds.OutOfCore
  pub numbered : fault.line ≡ index + 1
  pub there : index < length lines
  pub earlier : (k : ℕ) → k < index → (d : Line) → outside_at size lines k (slice_index_or lines k d) ≡ false
  pub here : (d : Line) → outside_at size lines index (slice_index_or lines index d) ≡ true

-- the cells of a segment, each with its address
abbrev pub cells_in : Segment → List (ℕ × Cell)
cells_in segment = numbered segment.address segment.cells

-- a segment has a cell, and no more than fit
abbrev pub has_few : Segment → Bool
has_few segment = nat_le 1 (length segment.cells) && nat_le (length segment.cells) most_cells

-- between a segment and the next there is a gap, or no cell more fits into the first
abbrev pub is_parted : Segment → Segment → Bool
is_parted first next =
    not (next.address == first.address + length first.cells) || (length first.cells == most_cells)

abbrev pub are_parted : List Segment → Bool
are_parted [] = true
are_parted (segment ∷ []) = true
are_parted (first ∷ next ∷ more) = is_parted first next && are_parted (next ∷ more)

-- the segments have these cells at these addresses, in this order, and are no more than they must be
pub record IsCutOf (cells : List (ℕ × Cell)) (segments : List Segment) : Type 0 where
  pub whole : flat_map cells_in segments ≡ cells
  pub few : list_all has_few segments ≡ true
  pub parted : are_parted segments ≡ true
