-- How many bytes cells take.
use Rattle.std.proofs.Common.{◌≡◌, ℕ, ◌+◌, ◌*◌, ◌<◌, ◌≤◌, Bool, true, false, List, [], ◌∷◌, ◌++◌, length, ap}
use Rattle.std.proofs.Common.{if◌then◌else◌, slice_index, vec_capacity, arith, length-append}
use Rattle.std.specs.List.{flat_map}
use Rattle.std.specs.declared.vec.Vec.{Vec}
use Rattle.bcd_1401.specs.Graphic.{graphics}
use Rattle.bcd_1401.specs.declared.cell.Cell.{Cell}
use Rattle.machine_notation.specs.Cells.{cell_text, cells_text}
use Rattle.machine_notation.specs.Room.{LacksRoomFor}

one : (mark : Bool) (char : ℕ) → length (if mark then 126 ∷ char ∷ [] else char ∷ []) ≤ 2
one true char = omega arith
one false char = omega arith

-- two each at most
few : (cells : List Cell) → length (flat_map cell_text cells) ≤ 2 * length cells
few [] = omega arith
few (cell ∷ cells) =
    omega (
      arith,
      length-append (cell_text cell) (flat_map cell_text cells),
      one cell.mark (slice_index graphics cell.char),
      few cells,
    )

pub cells_added : (old new : List ℕ) (cells : List Cell) → new ≡ old ++ cells_text cells
    → length new ≤ length old + 2 * length cells
unfolding cells_text
cells_added old new cells added = omega (arith, ap length added, length-append old (cells_text cells), few cells)

pub cells_full : {Z : Type 0} (text : Vec ℕ Z) (cells : List Cell) → LacksRoomFor text (cells_text cells)
    → vec_capacity text < length text.items + 2 * length cells
unfolding cells_text
cells_full text cells full = omega (arith, few cells)
