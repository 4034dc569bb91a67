-- The lines of the source, and which of them made the cells at a place (own).
use Rattle.std.specs.Prelude.{◌≡◌, ℕ, ◌+◌, ◌-◌, ◌==◌, Bool, false, not, ◌&&◌, ◌||◌, if◌then◌else◌, List, [], ◌∷◌}
use Rattle.std.specs.Prelude.{take, drop, reverse, pos, codes, Option, None, Some}
use Rattle.std.specs.List.{find}
use Rattle.std.specs.Option.{option_map}
use Rattle.std.specs.Ordering.{int_eq}
use Rattle.std.specs.Str.{bytes_eq}
use Rattle.autocoder_listing.specs.Rows.{line_of}
use Rattle.autocoder_listing.specs.declared.rows.Row.{Row}
use Rattle.autocoder_statements.specs.Nearness.{word_in}
use Rattle.autocoder_statements.specs.Punctuation.{at_sign, blank}
use Rattle.autocoder_statements.specs.SourceLine.{lines_of}
use Rattle.core_1401.specs.Storage.{Storage, cell_at, is_in_core}
use Rattle.operate_views.specs.Lines.{cells_to_mark}
use Rattle.operate_views.specs.declared.lines.Statement.{Statement}

-- a place holds a word mark, or a character that is no blank
unfoldable pub has_cell : Storage → ℕ → Bool
has_cell storage at =
    is_in_core storage at && ((cell_at storage at).mark || not ((cell_at storage at).char == 0))

-- the number of the last line whose row shows at a place the characters that are there now, up to the next word mark,
-- eight at most; none for a blank without a word mark, which the rows of EQU and ORG show too
abbrev pub line_at : List Row → Storage → ℕ → Option ℕ
line_at rows storage at = if has_cell storage at then line_of rows at (cells_to_mark storage at) else None

abbrev first_line : List (List ℕ) → List ℕ
first_line [] = []
first_line (line ∷ lines) = line

-- the line of a number, counted from 1; empty if there is none
unfoldable pub line_numbered : List ℕ → ℕ → List ℕ
line_numbered source number = if number == 0 then [] else first_line (drop (number - 1) (lines_of source))

-- columns of a line, counted from 1
unfoldable pub columns : ℕ → ℕ → List ℕ → List ℕ
columns first last line = take (last - (first - 1)) (drop (first - 1) line)

-- how many bytes there are up to the first blank that no two at signs enclose
abbrev pub operands_len : Bool → List ℕ → ℕ
operands_len is_quoted [] = 0
operands_len is_quoted (byte ∷ bytes) =
    if not is_quoted && (byte == blank) then 0
    else 1 + operands_len (if byte == at_sign then not is_quoted else is_quoted) bytes

-- the operands of a line, without the remark after them
unfoldable pub operands_in : List ℕ → List ℕ
operands_in line = take (operands_len false (columns 21 72 line)) (columns 21 72 line)

-- a label begins in column 6, an operation in column 16
abbrev pub label_in : List ℕ → List ℕ
label_in line = word_in (columns 6 15 line)

abbrev pub operation_in : List ℕ → List ℕ
operation_in line = word_in (columns 16 20 line)

-- the fields of a line
pub record IsStatementOf (line : List ℕ) (statement : Statement) : Type 0 where
  pub label_is : statement.label.now ≡ label_in line
  pub operation_is : statement.operation.now ≡ operation_in line
  pub operands_are : statement.operands.now ≡ operands_in line

-- the operations of constants and areas
abbrev pub is_data_operation : List ℕ → Bool
is_data_operation operation =
    bytes_eq operation (codes "DCW") || bytes_eq operation (codes "DC") || bytes_eq operation (codes "DS")
    || bytes_eq operation (codes "DSA")
    || bytes_eq operation (codes "DA")

-- a row is that of a constant or an area which begins at a place
abbrev pub is_data_at : List ℕ → ℕ → Row → Bool
is_data_at source at row =
    int_eq row.address (pos at) && is_data_operation (operation_in (line_numbered source row.number))

-- the last such row
unfoldable pub data_at : List ℕ → List Row → ℕ → Option Row
data_at source rows at = find (is_data_at source at) (reverse rows)

-- a line as data: its label, whatever its cells are now
pub record IsDataOf (line : List ℕ) (statement : Statement) : Type 0 where
  pub label_is : statement.label.now ≡ label_in line
  pub operation_is : statement.operation.now ≡ codes "DATA"
  pub operands_are : statement.operands.now ≡ []

-- what a listing has of a place: the line that made its cells; or the line of data that begins there, if its cells are
-- others now and have a word mark
abbrev pub listed_line : List ℕ → List Row → Storage → ℕ → Option ℕ → Option ℕ
listed_line source rows storage at (Some number) = Some number
listed_line source rows storage at None =
    if is_in_core storage at && (cell_at storage at).mark
    then option_map (λ (row : Row). row.number) (data_at source rows at) else None

unfoldable pub listed_at : List ℕ → List Row → Storage → ℕ → Option ℕ
listed_at source rows storage at = listed_line source rows storage at (line_at rows storage at)
