-- How many bytes the lines of an image's text take.
use Rattle.std.proofs.Common.{ℕ, ◌*◌, ◌^◌, ◌<◌, ◌≤◌, Bool, true, false, List, [], ◌∷◌, ◌++◌, length}
use Rattle.std.proofs.Common.{if◌then◌else◌, slice_index, arith, length-append}
use Rattle.std.specs.Prelude.{codes}
use Rattle.std.specs.List.{flat_map}
use Rattle.bcd_1401.specs.Graphic.{graphics}
use Rattle.bcd_1401.specs.declared.cell.Cell.{Cell}
use Rattle.core_1401.specs.Cells.{most_cells}
use Rattle.machine_notation.specs.Cells.{cell_text, cells_text}
use Rattle.machine_notation.specs.Digits.{digits_in}
use Rattle.machine_image.specs.ImageText.{header_text, segment_text, end_text, line_of, most_in_line}
use Rattle.machine_image.specs.declared.image.Segment.{Segment}
use Rattle.machine_image.specs.declared.version.Version.TheVariants.{Two}
use Rattle.machine_image.proofs.NumberLemmas.{length-digits_in}

one : (mark : Bool) (char : ℕ) → length (if mark then 126 ∷ char ∷ [] else char ∷ []) ≤ 2
one true char = omega arith
one false char = omega arith

few : (cells : List Cell) → length (flat_map cell_text cells) ≤ 2 * length cells
few [] = omega arith
few (cell ∷ cells) =
    omega (
      arith,
      length-append (cell_text cell) (flat_map cell_text cells),
      one cell.mark (slice_index graphics cell.char),
      few cells,
    )

-- a cell takes two at most
pub cells_few : (cells : List Cell) → length (cells_text cells) ≤ 2 * length cells
unfolding cells_text
cells_few cells = few cells

pub header_few : (size : ℕ) → size < 2 ^ 16 → length (line_of (header_text Two size)) ≤ most_in_line
unfolding header_text
header_few size small =
    let digits : List ℕ = digits_in 5 size in
    omega (
      arith,
      length-append (codes "IMAGE2 ") digits,
      length-append (codes "IMAGE2 " ++ digits) (codes "\n"),
      length-digits_in 5 size (omega arith) (omega arith) (omega arith),
    )

pub segment_few : (segment : Segment) → segment.address < 2 ^ 16 → length segment.cells ≤ most_cells
    → length (line_of (segment_text Two segment)) ≤ most_in_line
unfolding segment_text
segment_few segment small most =
    let address : List ℕ = digits_in 5 segment.address in
    let count : List ℕ = digits_in 2 (length segment.cells) in
    let cells : List ℕ = cells_text segment.cells in
    omega (
      arith,
      length-append address (codes " "),
      length-append (address ++ codes " ") count,
      length-append (address ++ codes " " ++ count) (codes " "),
      length-append (address ++ codes " " ++ count ++ codes " ") cells,
      length-append (address ++ codes " " ++ count ++ codes " " ++ cells) (codes "\n"),
      length-digits_in 5 segment.address (omega arith) (omega arith) (omega arith),
      length-digits_in 2 (length segment.cells) (omega arith) (omega arith) (omega arith),
      cells_few segment.cells,
    )

pub end_few : (start : ℕ) → start < 2 ^ 16 → length (line_of (end_text Two start)) ≤ most_in_line
unfolding end_text
end_few start small =
    let digits : List ℕ = digits_in 5 start in
    omega (
      arith,
      length-append (codes "END ") digits,
      length-append (codes "END " ++ digits) (codes "\n"),
      length-digits_in 5 start (omega arith) (omega arith) (omega arith),
    )
