-- How a journal is listed (own): its entries in columns, to be read by people.
use Rattle.std.specs.Prelude.{ℕ, ◌-◌, ◌==◌, nat_le, Bool, true, ◌&&◌, if◌then◌else◌, List, [], ◌++◌, length}
use Rattle.std.specs.Prelude.{replicate, Option, None, Some, codes}
use Rattle.machine_notation.specs.Digits.{digits_in}
use Rattle.console_text.specs.AnswerText.{answer_text}
use Rattle.console_text.specs.CommandText.{command_text}
use Rattle.room_alone.specs.declared.entry.Entry.{Entry}
use Rattle.room_files.specs.declared.listing.View.{View}
use Rattle.room_files.specs.JournalText.{with_feed}
use Rattle.room_alone.specs.Kept.{lines_by}

-- the least number of columns that a command has
abbrev pub command_columns : ℕ
command_columns = 27

-- a text followed by blanks, up to the columns of a command
abbrev pub to_command_columns : List ℕ → List ℕ
to_command_columns text = text ++ replicate (command_columns - length text) 32

-- an entry's number and its seat, and two blanks
unfoldable pub front_columns : ℕ → ℕ → List ℕ
front_columns number seat = digits_in 1 number ++ codes " seat " ++ digits_in 1 seat ++ codes "  "

-- an entry as it is listed: its number, the seat, the command and the answer
unfoldable pub listed_line : ℕ → Entry → List ℕ
listed_line number entry =
    front_columns number entry.seat ++ to_command_columns (command_text entry.command) ++ codes "  "
    ++ with_feed (answer_text entry.answer)

-- whether a seat is listed: each one if none is named
abbrev pub is_seat : Option ℕ → ℕ → Bool
is_seat None seat = true
is_seat (Some named) seat = seat == named

-- what is listed of an entry: those of the seat that is named, from a number on
unfoldable pub listed : View → ℕ → Entry → List ℕ
listed view number entry =
    if nat_le view.from number && is_seat view.seat entry.seat then listed_line number entry else []

-- the entries that are listed, in their order
abbrev pub listing_text : View → List Entry → List ℕ
listing_text view journal = lines_by (listed view) 1 journal
