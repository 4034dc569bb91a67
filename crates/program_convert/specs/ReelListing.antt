-- The listing of a reel (own): each record with its number, its length and its characters, and the counts at the end.
use Rattle.std.specs.Prelude.{ℕ, ◌+◌, ◌-◌, ◌%◌, ◌==◌, if◌then◌else◌, List, [], ◌∷◌, ◌++◌, length, codes, slice_index}
use Rattle.std.specs.List.{count_by}
use Rattle.bcd_1401.specs.Graphic.{graphics}
use Rattle.machine_notation.specs.Digits.{digits_in}
use Rattle.machine_tapes.specs.Reel.{characters_in, is_tape_mark}
use Rattle.program_arguments.specs.declared.call.Parity.{Parity}
use Rattle.program_convert.specs.Parity.{read_as}

-- how many characters of a record a line has
abbrev pub most_in_line : ℕ
most_in_line = 80

-- what precedes the character with this index: nothing, or what begins a line, whose characters are below those of the
-- first line
unfoldable pub before_char : ℕ → List ℕ
before_char at =
    if at % most_in_line == 0 then (if at == 0 then codes " " else codes "\n             ") else []

-- a character by its graphic, with what precedes it
abbrev pub char_text : Parity → ℕ → ℕ → List ℕ
char_text parity at char = before_char at ++ slice_index graphics (read_as parity char) ∷ []

-- the characters from this index on
unfoldable pub chars_text : Parity → ℕ → List ℕ → List ℕ
chars_text parity at [] = []
chars_text parity at (char ∷ chars) = char_text parity at char ++ chars_text parity (at + 1) chars

-- the number of a record and its length
abbrev pub front_text : ℕ → List ℕ → List ℕ
front_text number chars = digits_in 6 number ++ (codes " " ++ digits_in 5 (length chars))

-- the line of a tape mark, and the lines of another record
abbrev pub mark_line : ℕ → List ℕ
mark_line number = digits_in 6 number ++ codes " TAPE MARK\n"

abbrev pub data_lines : Parity → ℕ → List ℕ → List ℕ
data_lines parity number chars = front_text number chars ++ (chars_text parity 0 chars ++ codes "\n")

-- the lines of a record with this number
unfoldable pub record_lines : Parity → ℕ → List ℕ → List ℕ
record_lines parity number chars =
    if is_tape_mark chars then mark_line number else data_lines parity number chars

-- the lines of records, from the record with this number on
unfoldable pub lines_from : Parity → ℕ → List (List ℕ) → List ℕ
lines_from parity number [] = []
lines_from parity number (chars ∷ records) =
    record_lines parity number chars ++ lines_from parity (number + 1) records

-- how many records are tape marks
abbrev pub marks_in : List (List ℕ) → ℕ
marks_in records = count_by is_tape_mark records

-- a last line with these numbers of records, tape marks and characters
abbrev pub counts_text : ℕ → ℕ → ℕ → List ℕ
counts_text others marks characters =
    (codes "RECORDS " ++ digits_in 1 others)
    ++ ((codes " TAPE MARKS " ++ digits_in 1 marks)
    ++ ((codes " CHARACTERS " ++ digits_in 1 characters) ++ codes "\n"))

-- the last line: how many records there are besides the tape marks, how many tape marks, and how many characters the
-- records have
abbrev pub counts_line : List (List ℕ) → List ℕ
counts_line records =
    counts_text (length records - marks_in records) (marks_in records) (characters_in records - marks_in records)

-- the listing of a reel with these records
unfoldable pub listing_text : Parity → List (List ℕ) → List ℕ
listing_text parity records = lines_from parity 1 records ++ counts_line records
