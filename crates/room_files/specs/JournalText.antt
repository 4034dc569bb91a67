-- The text of a journal (own): a line that names the size of core storage, and one for each entry.
use Rattle.std.specs.Prelude.{◌≡◌, ◌<◌, ◌≤◌, ◌⊎◌, ℕ, true, All, List, [], ◌∷◌, ◌++◌, length, codes}
use Rattle.core_1401.specs.Storage.{is_core_size}
use Rattle.machine_notation.specs.Bytes.{line_feed}
use Rattle.machine_notation.specs.Digits.{digits_in}
use Rattle.machine_tables.specs.declared.features.Features.{Features}
use Rattle.machine_commands.specs.declared.command.Command.{Command}
use Rattle.machine_commands.specs.declared.command.Command.TheVariants.{Fit}
use Rattle.console_text.specs.declared.line.Line.TheVariants as line
use Rattle.console_text.specs.AnswerText.{answer_text}
use Rattle.console_text.specs.CommandText.{command_text}
use Rattle.console_text.specs.LineText.{CanBeSaid}
use Rattle.room_alone.specs.declared.entry.Entry.{Entry}
use Rattle.room_alone.specs.Journal.{IsLegal, most_entries}
use Rattle.room_alone.specs.Kept.{Form, kept_text, lines_by}

-- it parts the fields of a line
abbrev pub tab : ℕ
tab = 9

-- a field and its tab
abbrev pub with_tab : List ℕ → List ℕ
with_tab field = field ++ tab ∷ []

-- a line, or a line's last field, with the line feed that ends it
abbrev pub with_feed : List ℕ → List ℕ
with_feed line = line ++ line_feed ∷ []

-- the first line: the format, and the size of core storage
abbrev pub header_text : ℕ → List ℕ
header_text size = with_feed (codes "JOURNAL1 " ++ digits_in 1 size)

-- the line of an entry: its number in the journal, the seat, the command and its answer
unfoldable pub entry_text : ℕ → Entry → List ℕ
entry_text number entry =
    with_tab (digits_in 1 number) ++ with_tab (digits_in 1 entry.seat) ++ with_tab (command_text entry.command)
    ++ with_feed (answer_text entry.answer)

-- the lines of entries, the first of which has this number
abbrev pub entries_text : ℕ → List Entry → List ℕ
entries_text number entries = lines_by entry_text number entries

-- how a journal is kept: the header, and the lines of the entries, numbered from 1
abbrev pub journal_form : Form
journal_form = record { head = header_text; line = entry_text }

-- the text of a journal
abbrev pub journal_text : ℕ → List Entry → List ℕ
journal_text size journal = kept_text journal_form size journal

-- a line can say the command, or it fits a machine
abbrev pub CanBeRead : Command → Type 0
CanBeRead command = CanBeSaid (line.Command command) ⊎ ((features : Features) × (command ≡ Fit features))

-- the entry's command can be read, and its seat is a seat's number
abbrev pub CanBeKept : Entry → Type 0
CanBeKept entry = CanBeRead entry.command × (entry.seat < 256)

-- A room of this size can have this journal, and each of its entries can be kept.
pub record IsJournal (size : ℕ) (journal : List Entry) : Type 0 where
  pub core : is_core_size size ≡ true
  pub legal : IsLegal size journal
  pub bound : length journal ≤ most_entries
  pub kept : All CanBeKept journal
