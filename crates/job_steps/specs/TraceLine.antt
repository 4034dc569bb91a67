-- The line of a step (own).
use Rattle.std.specs.Prelude.{ℕ, ◌==◌, ◌&&◌, nat_lt, Bool, false, if◌then◌else◌, List, [], ◌∷◌, ◌++◌, length}
use Rattle.std.specs.Prelude.{Option, None, Some, codes}
use Rattle.std.specs.List.{concat}
use Rattle.bcd_1401.specs.declared.cell.Cell.{Cell}
use Rattle.bytes_text.specs.Piece.{padded}
use Rattle.core_1401.specs.Storage.{Storage}
use Rattle.machine_tables.specs.declared.stop.Stop.{Stop}
use Rattle.cpu_1401.specs.Fetched.{instruction_at}
use Rattle.cpu_1401.specs.State.{State}
use Rattle.machine_tables.specs.Stop.{stop_name}
use Rattle.devices_1401.specs.Carriage.{form_of as form_at, line_of as line_at}
use Rattle.devices_1401.specs.Control.{Control, Space, Skip}
use Rattle.machine_notation.specs.ShownText.{shown_text}
use Rattle.machine_notation.specs.Cells.{cells_text}
use Rattle.machine_notation.specs.Digits.{digits_in}
use Rattle.job_steps.specs.declared.work.TapeMark.{TapeMark}
use Rattle.job_steps.specs.declared.work.Work.{Work}
use Rattle.job_steps.specs.Changes.{changes_of, changes_text}

-- what a line compares the machine with: core storage, the I register, the position of the carriage, and the movement
-- that waits for the next print
pub record Seen : Type 0 where
  pub storage : Storage
  pub i : ℕ
  pub form : ℕ
  pub line : ℕ
  pub pending : Option Control

abbrev pub seen_of : State → Seen
seen_of s = record {
  storage = s.storage;
  i = s.i;
  form = form_at s.devices.carriage;
  line = line_at s.devices.carriage;
  pending = s.devices.carriage.pending;
}

-- an instruction by its cells, and as Autocoder writes it
unfoldable pub instruction_columns : List Cell → List ℕ
instruction_columns cells = padded 9 (cells_text cells) ++ codes "\t" ++ padded 20 (shown_text cells)

-- the instruction: where it is, and what it is
unfoldable pub fetched_text : Storage → ℕ → List ℕ
fetched_text storage i = digits_in 5 i ++ codes "\t" ++ instruction_columns (instruction_at storage i)

-- the A and the B register
unfoldable pub registers_text : ℕ → ℕ → List ℕ
registers_text a b = concat (codes "\t" ∷ digits_in 5 a ∷ codes "\t" ∷ digits_in 5 b ∷ [])

-- a form and a line of it
unfoldable pub position_text : ℕ → ℕ → List ℕ
position_text form line = concat (digits_in 4 form ∷ codes "/" ∷ digits_in 2 line ∷ [])

-- a text, if there is cause for it
abbrev pub text_if : Bool → List ℕ → List ℕ
text_if holds text = if holds then text else []

-- the line printed, by its place, the card read, the card punched and the tape unit that worked
unfoldable pub print_text : ℕ → ℕ → List ℕ
print_text form line = codes "\tPRINT " ++ position_text form line

-- the unit of a tape instruction, and how many records its head has passed
unfoldable pub tape_text : Option TapeMark → List ℕ
tape_text None = []
tape_text (Some mark) =
    concat (codes "\tTAPE " ∷ digits_in 1 mark.unit ∷ codes " RECORD " ∷ digits_in 1 mark.passed ∷ [])

unfoldable pub work_text : Seen → Work → List ℕ
work_text before work =
    text_if work.printed (print_text before.form before.line)
    ++ text_if work.read (codes "\tREAD") ++ text_if work.punched (codes "\tPUNCH") ++ tape_text work.tape

-- where the carriage is, if it moved
unfoldable pub moved_text : ℕ → ℕ → List ℕ
moved_text form line = codes "\tCARRIAGE " ++ position_text form line

unfoldable pub carriage_text : Seen → ℕ → ℕ → List ℕ
carriage_text before form line =
    if (before.form == form) && (before.line == line) then [] else moved_text form line

-- a movement, by the number of lines or by the line of the form
unfoldable pub movement_text : Control → List ℕ
movement_text (Space lines) = codes "SPACE " ++ digits_in 1 lines
movement_text (Skip line) = codes "SKIP " ++ digits_in 2 line

-- a movement that waits for the next print
unfoldable pub waiting_text : Control → List ℕ
waiting_text movement = codes "\tPENDING " ++ movement_text movement

abbrev pub is_same_movement : Control → Control → Bool
is_same_movement (Space lines) (Space others) = lines == others
is_same_movement (Space lines) (Skip other) = false
is_same_movement (Skip line) (Space others) = false
is_same_movement (Skip line) (Skip other) = line == other

-- the movement that waits, if it didn't before
abbrev pub pending_text : Option Control → Option Control → List ℕ
pending_text before None = []
pending_text None (Some movement) = waiting_text movement
pending_text (Some old) (Some movement) = if is_same_movement old movement then [] else waiting_text movement

-- what the devices did
unfoldable pub devices_text : Seen → Seen → Work → List ℕ
devices_text before after work =
    work_text before work ++ carriage_text before after.form after.line ++ pending_text before.pending after.pending

-- the name of a stop, if there is one
abbrev pub stop_text : Option Stop → List ℕ
stop_text None = []
stop_text (Some why) = codes "\t" ++ stop_name why

-- the line of a step, by what was seen before it, what it did at the devices, why it stopped, and the machine after it
unfoldable pub line_of : Seen → Work → Option Stop → State → List ℕ
line_of before work why after =
    fetched_text before.storage before.i ++ registers_text after.a after.b
    ++ devices_text before (seen_of after) work
    ++ changes_text (changes_of before.storage after.storage) ++ stop_text why ++ codes "\n"

-- what a step did at the devices and the tape units: there is a line more, a card less, a punched card more
abbrev pub work_of : State → State → Option TapeMark → Work
work_of before after tape = record {
  printed = nat_lt (length before.devices.paper) (length after.devices.paper);
  read = nat_lt (length after.devices.hopper) (length before.devices.hopper);
  punched = nat_lt (length before.devices.stacker) (length after.devices.stacker);
  tape = tape;
}
