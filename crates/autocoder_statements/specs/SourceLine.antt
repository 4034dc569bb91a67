-- The lines of a source, and the columns of a line (Autocoder, "Coding Sheet"; bytes and their ends own).
use Rattle.std.specs.Prelude.{ℕ, ◌-◌, ◌==◌, nat_le, Bool, not, ◌&&◌, ◌||◌, if◌then◌else◌, List, [], ◌∷◌, ◌++◌, length}
use Rattle.std.specs.Prelude.{take, replicate, slice_index, slice_range, is_some, position}
use Rattle.std.specs.List.{slice_split, list_all}
use Rattle.bcd_1401.specs.Graphic.{graphics}
use Rattle.autocoder_statements.specs.Punctuation.{blank, asterisk}

-- byte 10 ends a line
abbrev pub is_line_feed : ℕ → Bool
is_line_feed byte = byte == 10

-- a line without a carriage return at its end
abbrev pub without_return : List ℕ → List ℕ
without_return line =
    if slice_index line (length line - 1) == 13 then take (length line - 1) line else line

-- bytes after the last line feed are a line too
abbrev pub last_line_of : List ℕ → List (List ℕ)
last_line_of [] = []
last_line_of (byte ∷ more) = (byte ∷ more) ∷ []

-- the lines that stand between line feeds
abbrev pub lines_between : List (List ℕ) → List (List ℕ)
lines_between [] = []
lines_between (last ∷ []) = last_line_of last
lines_between (line ∷ next ∷ more) = without_return line ∷ lines_between (next ∷ more)

-- the lines of a source
abbrev pub lines_of : List ℕ → List (List ℕ)
lines_of source = lines_between (slice_split is_line_feed source)

-- a text, filled up with blanks to n bytes
abbrev pub padded : ℕ → List ℕ → List ℕ
padded n text = text ++ replicate (n - length text) blank

-- the 80 columns of a line: a shorter one goes on in blanks
unfoldable pub columns_of : List ℕ → List ℕ
columns_of line = padded 80 (take 80 line)

-- the columns from one to another, counted from 1
abbrev pub columns_in : ℕ → ℕ → List ℕ → List ℕ
columns_in first last columns = slice_range columns (first - 1) last

abbrev pub is_blank : ℕ → Bool
is_blank byte = byte == blank

abbrev pub is_printable : ℕ → Bool
is_printable byte = nat_le 32 byte && nat_le byte 126

-- a byte that is the graphic of a character
abbrev pub is_graphic : ℕ → Bool
is_graphic byte = is_some (position (λ each. each == byte) graphics)

-- a comment has an asterisk in column 6, or is all blank
abbrev pub is_comment : List ℕ → Bool
is_comment columns = (slice_index columns 5 == asterisk) || list_all is_blank columns

-- comments and columns 1 to 5 and 73 to 80 hold bytes 32 to 126, columns 6 to 72 of other lines graphics
abbrev pub has_foreign_bytes : List ℕ → Bool
has_foreign_bytes columns =
    if is_comment columns then not (list_all is_printable columns)
    else not (list_all is_printable (columns_in 1 5 columns))
    || not (list_all is_graphic (columns_in 6 72 columns))
    || not (list_all is_printable (columns_in 73 80 columns))
