-- Counts, places and cells, as many answers have them (own).
use Rattle.std.specs.Prelude.{ℕ, ◌==◌, if◌then◌else◌, nat_le, List, [], ◌++◌, codes, length, take}
use Rattle.bcd_1401.specs.declared.cell.Cell.{Cell}
use Rattle.machine_notation.specs.Cells.{cells_text}
use Rattle.machine_notation.specs.Digits.{digits_in}

-- how many there are of something
unfoldable pub count_text : ℕ → List ℕ → List ℕ
count_text count name = digits_in 1 count ++ codes " " ++ name ++ (if count == 1 then [] else codes "s")

-- after how many steps
unfoldable pub after_text : ℕ → List ℕ
after_text steps = codes " after " ++ count_text steps (codes "step")

-- an address in a column
abbrev pub column_text : ℕ → List ℕ
column_text at = digits_in 5 at

-- the lowest and the highest of some places, or the only one
unfoldable pub span_text : ℕ → ℕ → List ℕ
span_text low high = column_text low ++ (if low == high then [] else codes "-" ++ column_text high)

-- of many cells the first, and how many places they are
unfoldable pub some_cells_text : List Cell → List ℕ
some_cells_text cells =
    if nat_le (length cells) 60 then cells_text cells
    else cells_text (take 57 cells) ++ codes "..  (" ++ count_text (length cells) (codes "place") ++ codes ")"
