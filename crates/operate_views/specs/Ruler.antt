-- Core storage as text, fifty places a row under a ruler, with a row of tildes below those that have a word mark (own).
use Rattle.std.specs.Prelude.{ℕ, ◌+◌, ◌-◌, ◌*◌, ◌/◌, ◌==◌, ◌&&◌, not, nat_le, nat_lt, Bool, List, [], ◌++◌}
use Rattle.std.specs.Prelude.{if◌then◌else◌}
use Rattle.std.specs.Prelude.{codes, length, map, take}
use Rattle.std.specs.List.{flat_map, list_all, range_with_len, suffix_len}
use Rattle.bcd_1401.specs.declared.cell.Cell.{Cell}
use Rattle.core_1401.specs.Storage.{Storage, blank, cell_at}
use Rattle.machine_notation.specs.Characters.{graphics_of, trimmed}
use Rattle.machine_notation.specs.Digits.{digits_in}

-- how many places a row has
abbrev pub row_places : ℕ
row_places = 50

-- what is shown in the column of a place: its cell, if it is one of those from the first to before the end
abbrev pub shown_at : Storage → ℕ → ℕ → ℕ → Cell
shown_at storage first end at = if nat_le first at && nat_lt at end then cell_at storage at else blank

-- what is shown in the fifty columns of a row, by the place of its first column
unfoldable pub row_cells : Storage → ℕ → ℕ → ℕ → List Cell
row_cells storage first end row = map (shown_at storage first end) (range_with_len row row_places)

abbrev pub chars_of : List Cell → List ℕ
chars_of cells = map (λ (cell : Cell). cell.char) cells

abbrev pub is_blank : Cell → Bool
is_blank cell = cell.char == 0

abbrev pub is_unmarked : Cell → Bool
is_unmarked cell = not cell.mark

-- characters by their graphics, two columns after the address; nothing if all are blank
abbrev pub chars_columns : List Cell → List ℕ
chars_columns cells = if list_all is_blank cells then [] else codes "  " ++ graphics_of (trimmed (chars_of cells))

-- a tilde for a word mark
abbrev pub mark_column : Cell → ℕ
mark_column cell = if cell.mark then 126 else 32

-- the columns of cells up to the last with a word mark
abbrev pub marks_columns : List Cell → List ℕ
marks_columns cells = map mark_column (take (length cells - suffix_len is_unmarked cells) cells)

-- the row of word marks, if there is one
unfoldable pub marks_row : List Cell → List ℕ
marks_row cells = if list_all is_unmarked cells then [] else codes "       " ++ marks_columns cells ++ codes "\n"

-- a row, by the place of its first column and by its cells
unfoldable pub row_text : ℕ → List Cell → List ℕ
row_text row cells = digits_in 5 row ++ chars_columns cells ++ codes "\n" ++ marks_row cells

-- the row of this number, the one of place 0 being the first
abbrev pub numbered_row : Storage → ℕ → ℕ → ℕ → List ℕ
numbered_row storage first end k = row_text (row_places * k) (row_cells storage first end (row_places * k))

-- the rows of the places from the first to before the end
abbrev pub rows_text : Storage → ℕ → ℕ → List ℕ
rows_text storage first end =
    flat_map (numbered_row storage first end)
    (range_with_len (first / row_places) ((end + 49) / row_places - first / row_places))

-- the columns by tens and fives
abbrev pub ruler : List ℕ
ruler =
    codes "       0         10        20        30        40\n       |....:....|....:....|....:....|....:....|....:....\n"

-- the places from the first to before the end
abbrev pub core_text : Storage → ℕ → ℕ → List ℕ
core_text storage first end = ruler ++ rows_text storage first end
