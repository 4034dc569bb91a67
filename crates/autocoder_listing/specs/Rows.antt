-- The rows of a listing that have an address, and the line that placed cells (own).
use Rattle.std.specs.Prelude.{◌≡◌, ℕ, suc, ◌+◌, ◌<◌, Bool, true, false, ◌&&◌, nat_le, if◌then◌else◌, List, [], ◌∷◌, ◌++◌}
use Rattle.std.specs.Prelude.{length, take, drop, slice_index_or, ℤ, pos, ◌==◌, Option, None, Some}
use Rattle.std.specs.Cmp.Lexicographic.{pointwise}
use Rattle.std.specs.Ordering.{int_eq}
use Rattle.bcd_1401.specs.declared.cell.Cell.{Cell}
use Rattle.autocoder_statements.specs.declared.statement.Line.{Line}
use Rattle.autocoder_statements.specs.declared.statement.Statement.{Statement}
use Rattle.autocoder_placing.specs.Placement.{Placement, placed, placed_after, placed_among, unplaced}
use Rattle.autocoder_listing.specs.Listing.{address_shown, cells_at, characters_text}
use Rattle.autocoder_listing.specs.declared.rows.Row.{Row}

-- a row at an address, if the line shows one
abbrev pub row_with : ℕ → Option ℤ → List ℕ → Option Row
row_with number None characters = None
row_with number (Some address) characters =
    Some (record { number = number; address = address; characters = characters })

-- the row of the line of this number, with these lines after it; a comment has none
abbrev pub row_of : Placement → Placement → ℕ → Option Statement → List Line → Option Row
row_of all this number None lines = None
row_of all this number (Some statement) lines =
    row_with number (address_shown all this statement.body) (characters_text (cells_at all this statement.body lines))

abbrev pub listed : Option Row → List Row
listed None = []
listed (Some row) = row ∷ []

-- the rows of lines, counting them from this number
abbrev pub rows_from : Placement → Placement → ℕ → List Line → List Row
rows_from all this number [] = []
rows_from all this number (line ∷ lines) =
    listed (row_of all this number line.statement lines) ++ rows_from all (placed_after this line) (number + 1) lines

-- the rows of all lines
abbrev pub rows_of : List Line → List Row
rows_of lines = rows_from (placed lines) (unplaced (placed lines)) 1 lines

-- a row shows these characters at a place
abbrev pub is_at : ℕ → List ℕ → Row → Bool
is_at at characters row = int_eq row.address (pos at) && pointwise ◌==◌ row.characters characters

-- the number of the last such row, or else this one
abbrev pub last_at : ℕ → List ℕ → Option ℕ → List Row → Option ℕ
last_at at characters found [] = found
last_at at characters found (row ∷ rows) =
    last_at at characters (if is_at at characters row then Some row.number else found) rows

-- the number of the last line that placed cells with these characters at a place: up to eight cells are shown
abbrev pub line_of : List Row → ℕ → List Cell → Option ℕ
line_of rows at cells = if nat_le (length cells) 8 then last_at at (characters_text cells) None rows else None

-- the line of a statement shows these characters at a place, with these placed above it and these lines after it
abbrev pub shown_at : ℕ → List ℕ → Option ℤ → List ℕ → Bool
shown_at at characters None text = false
shown_at at characters (Some address) text = int_eq address (pos at) && pointwise ◌==◌ text characters

abbrev pub shows : ℕ → List ℕ → Placement → Placement → Option Statement → List Line → Bool
shows at characters all this None lines = false
shows at characters all this (Some statement) lines =
    shown_at at characters (address_shown all this statement.body)
    (characters_text (cells_at all this statement.body lines))

-- the line of this index shows them
abbrev pub shows_in : List Line → ℕ → List ℕ → ℕ → Line → Bool
shows_in lines at characters k line =
    shows at characters (placed lines) (placed_among lines (take k lines)) line.statement (drop (suc k) lines)

-- the number is that of the last line that shows these characters at a place
pub record IsLastAt (lines : List Line) (at : ℕ) (characters : List ℕ) (number : ℕ) : Type 0 where
  pub index : ℕ
  pub numbered : number ≡ index + 1
  pub there : index < length lines
  pub here : (d : Line) → shows_in lines at characters index (slice_index_or lines index d) ≡ true
  pub later : (k : ℕ) → index < k → k < length lines → (d : Line)
      → shows_in lines at characters k (slice_index_or lines k d) ≡ false
