-- How the text of a journal is read (own). Commands are read, the machine answers, and the answers' texts are compared:
-- cells can spell what a refusal's text says, so an answer can't be read from its text alone.
use Rattle.std.specs.Prelude.{◌≡◌, ℕ, ◌+◌, ◌<◌, nat_le, nat_lt, ◌==◌, Bool, true, false, if◌then◌else◌}
use Rattle.std.specs.Prelude.{List, [], ◌∷◌, ◌++◌, length, find, Option, None, Some, is_some, Result}
use Rattle.std.specs.Prelude.{Ok, Err}
use Rattle.std.specs.List.{before_first, list_any}
use Rattle.std.specs.Option.{ok_or, option_map_or}
use Rattle.core_1401.specs.Storage.{core_sizes}
use Rattle.machine_notation.specs.Bytes.{line_feed}
use Rattle.machine_notation.specs.Digits.{digits_in, number_in}
use Rattle.machine_notation.specs.Prefix.{after_prefix}
use Rattle.machine_commands.specs.declared.answer.Answer.{Answer}
use Rattle.machine_commands.specs.declared.command.Command.{Command}
use Rattle.machine_commands.specs.declared.command.Command.TheVariants.{Fit}
use Rattle.console_text.specs.declared.line.Line.{Line}
use Rattle.console_text.specs.declared.line.Line.TheVariants as line
use Rattle.console_text.specs.declared.line.LineFault.{LineFault}
use Rattle.console_text.specs.AnswerText.{answer_text}
use Rattle.console_text.specs.CommandText.{command_text}
use Rattle.console_text.specs.ConsoleLine.{said_by}
use Rattle.console_text.specs.FitText.{fit_of}
use Rattle.room_alone.specs.declared.entry.Entry.{Entry}
use Rattle.room_alone.specs.Journal.{answer_to, entry, is_full}
use Rattle.room_files.specs.declared.journal_fault.JournalFault.{JournalFault}
use Rattle.room_files.specs.declared.journal_fault.Wrong.{Wrong}
use Rattle.room_files.specs.declared.journal_fault.Wrong.TheVariants as wrong
use Rattle.room_files.specs.JournalText.{tab, with_tab, with_feed, header_text, journal_text, IsJournal}

infixl 10 ◌>>=◌
-- what is read, and what is then read of it, or the first thing that is wrong
abbrev pub ◌>>=◌ : {A B : Type 0} → Result A Wrong → (A → Result B Wrong) → Result B Wrong
Ok value >>= more = more value
Err why >>= more = Err why

-- the first field of a text: up to its first tab
abbrev pub field : List ℕ → List ℕ
field text = before_first (λ byte. byte == tab) text

-- what follows the number that is due
unfoldable pub number_at : ℕ → List ℕ → Result (List ℕ) Wrong
number_at number text = ok_or (after_prefix (with_tab (digits_in 1 number)) text) wrong.Number

-- a seat's number, if it is one
abbrev pub if_seat : Option ℕ → Option ℕ
if_seat None = None
if_seat (Some number) = if nat_lt number 256 then Some number else None

-- the seat that a field names, in at most three digits
unfoldable pub seat_in : List ℕ → Option ℕ
seat_in text = if nat_le (length text) 3 then if_seat (number_in text) else None

-- a seat, and what follows it
unfoldable pub seat_at : List ℕ → Result (ℕ × List ℕ) Wrong
seat_at text = do
  seat ← ok_or (seat_in (field text)) wrong.Seat
  rest ← ok_or (after_prefix (with_tab (digits_in 1 seat)) text) wrong.Seat
  Ok (seat, rest)

-- the command that a line says, if it says one
abbrev pub if_command : Result Line LineFault → Option Command
if_command (Ok line.Empty) = None
if_command (Ok (line.Command command)) = Some command
if_command (Ok (line.Glance address)) = None
if_command (Ok line.Quit) = None
if_command (Err fault) = None

-- the command that a field has: what fits a machine, which no line says, or a line's
abbrev pub command_in : List ℕ → Option Command
command_in text = option_map_or (λ features. Some (Fit features)) (fit_of text) (if_command (said_by text))

-- a command in its own text, and what follows it
unfoldable pub command_at : List ℕ → Result (Command × List ℕ) Wrong
command_at text = do
  command ← ok_or (command_in (field text)) wrong.Command
  rest ← ok_or (after_prefix (with_tab (command_text command)) text) wrong.Command
  Ok (command, rest)

-- what follows the machine's answer and its line feed, if the journal has room for an entry more
unfoldable pub answer_at : List Entry → Answer → List ℕ → Result (List ℕ) Wrong
answer_at journal answer text =
    if is_full journal then Err wrong.Full else ok_or (after_prefix (with_feed (answer_text answer)) text) wrong.Answer

-- the entry that a text begins with after these entries of a machine of this size, and what follows its line
unfoldable pub entry_at : ℕ → List Entry → List ℕ → Result (Entry × List ℕ) Wrong
entry_at size journal text = do
  text ← number_at (length journal + 1) text
  seat ← seat_at text
  command ← command_at seat.1
  rest ← answer_at journal (answer_to size journal command.0) command.1
  Ok (entry seat.0 command.0 (answer_to size journal command.0), rest)

-- the size, of these, that the first line names
abbrev pub size_among : List ℕ → List ℕ → Option ℕ
size_among sizes text = find (λ size. is_some (after_prefix (header_text size) text)) sizes

-- the size that the first line names
unfoldable pub size_at : List ℕ → Option ℕ
size_at text = size_among core_sizes text

-- The first line names this size, and this follows it.
pub record HasHeader (text : List ℕ) (size : ℕ) (rest : List ℕ) : Type 0 where
  pub size_is : size_at text ≡ Some size
  pub rest_is : after_prefix (header_text size) text ≡ Some rest

-- why none of these sizes is read
abbrev pub IsNoHeader : List ℕ → List ℕ → Wrong → Type 0
IsNoHeader sizes text wrong.Memory = Unit {0}
IsNoHeader sizes text wrong.Header = size_among sizes text ≡ None
IsNoHeader sizes text wrong.Number = ⊥
IsNoHeader sizes text wrong.Seat = ⊥
IsNoHeader sizes text wrong.Command = ⊥
IsNoHeader sizes text wrong.Answer = ⊥
IsNoHeader sizes text wrong.Full = ⊥
IsNoHeader sizes text wrong.Unfinished = ⊥

-- whether a line feed is left
abbrev pub has_line : List ℕ → Bool
has_line text = list_any (λ byte. byte == line_feed) text

-- Why nothing is read: want of memory, or what is wrong with the text.
abbrev pub IsWhy : {A : Type 0} → Result A Wrong → Wrong → Type 0
IsWhy read wrong.Memory = Unit {0}
IsWhy read wrong.Header = read ≡ Err wrong.Header
IsWhy read wrong.Number = read ≡ Err wrong.Number
IsWhy read wrong.Seat = read ≡ Err wrong.Seat
IsWhy read wrong.Command = read ≡ Err wrong.Command
IsWhy read wrong.Answer = read ≡ Err wrong.Answer
IsWhy read wrong.Full = read ≡ Err wrong.Full
IsWhy read wrong.Unfinished = read ≡ Err wrong.Unfinished

-- The text is a journal's, followed by what is no line yet.
pub record IsTextOf (text : List ℕ) (size : ℕ) (journal : List Entry) (rest : List ℕ) : Type 0 where
  pub of : IsJournal size journal
  pub text_is : text ≡ journal_text size journal ++ rest
  pub no_line : has_line rest ≡ false

-- What a call gives for a journal's text: the size, the journal, and what follows it.
pub record IsThat (size : ℕ) (journal : List Entry) (rest : List ℕ) (size' : ℕ) (journal' : List Entry)
    (rest' : List ℕ) : Type 0 where
  pub size_is : size ≡ size'
  pub journal_is : journal ≡ journal'
  pub rest_is : rest ≡ rest'

-- The lines before this one are those of a journal, and this is wrong with it.
pub record IsWrongAt (text : List ℕ) (number : ℕ) (why : Wrong) : Type 0 where
  pub size : ℕ
  pub journal : List Entry
  pub rest : List ℕ
  pub of : IsJournal size journal
  pub text_is : text ≡ journal_text size journal ++ rest
  pub some_line : has_line rest ≡ true
  pub number_is : number ≡ length journal + 2
  pub why_is : entry_at size journal rest ≡ Err why

-- The text ends in this line, before the line feed.
pub data IsCut : List ℕ → ℕ → Type 0 where
  in_header : (text : List ℕ) → has_line text ≡ false → IsCut text 1
  in_entry : (text : List ℕ) (size : ℕ) (journal : List Entry) (rest : List ℕ) → IsTextOf text size journal rest
      → 0 < length rest → IsCut text (length journal + 2)

-- The lines before this one are those of a journal, and this one follows them, with its line feed.
pub data IsReached : List ℕ → ℕ → Type 0 where
  at_header : (text : List ℕ) → has_line text ≡ true → IsReached text 1
  at_entry : (text : List ℕ) (size : ℕ) (journal : List Entry) (rest : List ℕ) → IsJournal size journal
      → text ≡ journal_text size journal ++ rest → has_line rest ≡ true → IsReached text (length journal + 2)

-- why a text is refused in a line; if memory was refused there, the lines before it are right
abbrev pub IsRefusedIn : List ℕ → ℕ → Wrong → Type 0
IsRefusedIn text number wrong.Memory = IsReached text number
IsRefusedIn text number wrong.Header = (number ≡ 1) × (has_line text ≡ true) × (size_at text ≡ None)
IsRefusedIn text number wrong.Number = IsWrongAt text number wrong.Number
IsRefusedIn text number wrong.Seat = IsWrongAt text number wrong.Seat
IsRefusedIn text number wrong.Command = IsWrongAt text number wrong.Command
IsRefusedIn text number wrong.Answer = IsWrongAt text number wrong.Answer
IsRefusedIn text number wrong.Full = IsWrongAt text number wrong.Full
IsRefusedIn text number wrong.Unfinished = IsCut text number

abbrev pub IsRefused : List ℕ → JournalFault → Type 0
IsRefused text fault = IsRefusedIn text fault.line fault.why

-- What one entry read gives: the entry, the journal with it, and what follows its line.
pub record Takes (size : ℕ) (journal : List Entry) (text : List ℕ) (journal' : List Entry) (rest : List ℕ)
    : Type 0 where
  pub entry : Entry
  pub read : entry_at size journal text ≡ Ok (entry, rest)
  pub journal_is : journal' ≡ journal ++ entry ∷ []
