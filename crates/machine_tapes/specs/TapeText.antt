-- What characters and word marks are on tape (A24-1403, "Magnetic Tape", from memory; own is what the marks are that no
-- character follows).
use Rattle.std.specs.Prelude.{ℕ, ◌==◌, ◌&&◌, ◌||◌, not, Bool, true, false, List, [], ◌∷◌, slice_index_or, if◌then◌else◌}
use Rattle.std.specs.List.{flat_map}
use Rattle.bcd_1401.specs.declared.cell.Cell.{Cell}
use Rattle.machine_tapes.specs.Reel.{is_tape_mark, mark_char}
use Rattle.machine_tapes.specs.declared.work.TapeMode.{TapeMode}
use Rattle.machine_tapes.specs.declared.work.TapeMode.TheVariants.{Move, Load}

-- the A bit alone, which is a blank in even parity: a character without a bit would be no character on tape
abbrev pub even_blank : ℕ
even_blank = 16

-- the word separator, A-8-5: the next character has a word mark
abbrev pub separator : ℕ
separator = 29

-- a character as it is written, in odd parity or in even
abbrev pub written_char : Bool → ℕ → ℕ
written_char true char = char
written_char false char = if char == 0 then even_blank else char

-- a character as it is read
abbrev pub read_char : Bool → ℕ → ℕ
read_char true char = char
read_char false char = if char == even_blank then 0 else char

-- whether word marks are written and read
abbrev pub has_marks : TapeMode → Bool
has_marks Move = false
has_marks Load = true

-- the characters of a cell on tape
abbrev pub text_of_cell : TapeMode → Bool → Cell → List ℕ
text_of_cell how is_odd cell =
    if has_marks how && cell.mark then separator ∷ written_char is_odd cell.char ∷ []
    else written_char is_odd cell.char ∷ []

-- the record of cells
abbrev pub text_of : TapeMode → Bool → List Cell → List ℕ
text_of how is_odd cells = flat_map (text_of_cell how is_odd) cells

-- whether a character that is read is a word separator: it is none after another
abbrev pub is_separator : TapeMode → Bool → ℕ → Bool
is_separator how is_marked char = has_marks how && not is_marked && (char == separator)

-- the cells of the characters of a record, after a word separator or not
abbrev pub cells_from : TapeMode → Bool → Bool → List ℕ → List Cell
cells_from how is_odd is_marked [] = []
cells_from how is_odd is_marked (char ∷ chars) =
    if is_separator how is_marked char then cells_from how is_odd true chars
    else record { char = read_char is_odd char; mark = is_marked } ∷ cells_from how is_odd false chars

-- the cells of a record
abbrev pub cells_read : TapeMode → Bool → List ℕ → List Cell
cells_read how is_odd chars = cells_from how is_odd false chars

-- whether a record ends a file: it is a tape mark, or in even parity it begins with the character of one
abbrev pub ends_file : Bool → List ℕ → Bool
ends_file is_odd chars = is_tape_mark chars || (not is_odd && (slice_index_or chars 0 0 == mark_char))
