-- The lines of `list`: an instruction or a constant with the line of the source that made it (own).
use Rattle.std.specs.Prelude.{ℕ, ◌-◌, Bool, if◌then◌else◌, List, [], ◌∷◌, ◌++◌, codes, drop, length, min}
use Rattle.std.specs.Prelude.{take, Option, None, Some}
use Rattle.std.specs.List.{concat, suffix_len}
use Rattle.std.specs.Char.{is_ascii_whitespace}
use Rattle.bcd_1401.specs.declared.cell.Cell.{Cell}
use Rattle.core_1401.specs.Field.{next_mark_from}
use Rattle.core_1401.specs.Storage.{Storage, cell_at}
use Rattle.bytes_text.specs.Piece.{padded}
use Rattle.cpu_1401.specs.Fetched.{instruction_at}
use Rattle.machine_notation.specs.ShownText.{shown_text}
use Rattle.machine_notation.specs.Characters.{graphics_of, trimmed}
use Rattle.machine_notation.specs.Digits.{digits_in}
use Rattle.operate_views.specs.Ruler.{chars_of}
use Rattle.operate_views.specs.declared.lines.Statement.{Statement}

-- a text without the blanks at its end
abbrev pub without_last_blanks : List ℕ → List ℕ
without_last_blanks text = take (length text - suffix_len is_ascii_whitespace text) text

-- the characters of cells, without the blanks at their end
abbrev pub shown_cells : List Cell → List ℕ
shown_cells cells = graphics_of (trimmed (chars_of cells))

-- what a line begins with: a mark, the address, the characters of the cells
unfoldable pub front_text : ℕ → ℕ → List ℕ → List ℕ
front_text mark at shown =
    concat ((mark ∷ []) ∷ digits_in 5 at ∷ codes " " ∷ padded 9 shown ∷ codes " " ∷ [])

-- the line of a place whose cells a line of the source made, with the fields of the statement in columns
unfoldable pub source_line : ℕ → ℕ → List Cell → Statement → List ℕ
source_line mark at cells statement =
    front_text mark at (shown_cells cells)
    ++ concat (padded 7 statement.label.now ∷ padded 5 statement.operation.now ∷ padded 20 statement.operands.now
    ∷ codes " line " ∷ digits_in 1 statement.line ∷ codes "\n" ∷ [])

-- the line of a place where an instruction begins that no line of the source made
unfoldable pub instruction_line : ℕ → ℕ → List Cell → List ℕ
instruction_line mark at cells =
    front_text mark at (shown_cells cells)
    ++ concat (codes "       " ∷ without_last_blanks (shown_text cells) ∷ codes "\n" ∷ [])

-- the line of a place where none begins
unfoldable pub cells_line : ℕ → ℕ → List Cell → List ℕ
cells_line mark at cells = (mark ∷ []) ++ digits_in 5 at ++ codes " " ++ shown_cells cells ++ codes "\n"

-- the cells from a place up to the next word mark, at most eight
abbrev pub cells_to_mark : Storage → ℕ → List Cell
cells_to_mark storage at = take (min 8 (next_mark_from storage at)) (drop at storage)

-- the line of a place that no line of the source made: an instruction, if there is a word mark, or cells
unfoldable pub unsourced_line : Storage → ℕ → ℕ → List ℕ
unsourced_line storage mark at =
    if (cell_at storage at).mark then instruction_line mark at (instruction_at storage at)
    else cells_line mark at (cells_to_mark storage at)

-- the line of a place, with the statement of the line of the source that made its cells, if there is one
abbrev pub listed_line : Storage → ℕ → ℕ → Option Statement → List ℕ
listed_line storage mark at None = unsourced_line storage mark at
listed_line storage mark at (Some statement) = source_line mark at (cells_to_mark storage at) statement

-- how many places the line of a place stands for: those up to the next word mark if the source made it, at most 64;
-- those of an instruction; or the cells that are shown
abbrev pub listed_places : Storage → ℕ → Bool → ℕ
listed_places storage at is_sourced =
    if is_sourced then min 64 (next_mark_from storage at)
    else (if (cell_at storage at).mark then length (instruction_at storage at) else min 8 (next_mark_from storage at))

-- what a step carried out: the statement of the line of the source that made it, if there is one, else the instruction
unfoldable pub statement_columns : Statement → List ℕ
statement_columns statement =
    concat (padded 7 statement.label.now ∷ padded 5 statement.operation.now ∷ padded 19 statement.operands.now ∷ [])

unfoldable pub instruction_columns : List Cell → List ℕ
instruction_columns cells = concat (codes "       " ∷ padded 24 (shown_text cells) ∷ [])

abbrev pub stepped_columns : Option Statement → List Cell → List ℕ
stepped_columns None cells = instruction_columns cells
stepped_columns (Some statement) cells = statement_columns statement

-- a step: where it was, what it carried out, and what it did, without blanks at the end
unfoldable pub step_front : ℕ → Option Statement → List Cell → List ℕ
step_front at statement cells = digits_in 5 at ++ codes " " ++ stepped_columns statement cells ++ codes " "

unfoldable pub step_line : ℕ → Option Statement → List Cell → List ℕ → List ℕ
step_line at statement cells effect =
    without_last_blanks (step_front at statement cells ++ effect) ++ codes "\n"
