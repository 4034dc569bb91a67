-- The carriage of the printer: forms of 66 lines, spaces and skips (A24-1403, "Control Carriage"; how forms are counted
-- is own).
use Rattle.std.specs.Prelude.{ℕ, ◌≡◌, ◌+◌, ◌*◌, ◌/◌, ◌%◌, ◌≤◌, ◌==◌, Bool, false, Option, Some, None, unwrap_or, Result}
use Rattle.std.specs.Prelude.{Ok, Err, if◌then◌else◌}
use Rattle.std.specs.List.{position_or_len, range_with_len}
use Rattle.devices_1401.specs.Control.{Control, Space, Skip, is_immediate, movement_of, line_of_channel}
use Rattle.devices_1401.specs.declared.fault.ControlFault.{ControlFault}

-- the lines of a form, and the forms that are counted before their count begins again
abbrev pub lines_of_form : ℕ
lines_of_form = 66

abbrev pub forms : ℕ
forms = 10000

-- how many positions the carriage has
abbrev pub positions : ℕ
positions = lines_of_form * forms

-- the position of the carriage, as 66 times the form and the line less one, and the movement that waits for the next
-- print
pub record Carriage : Type 0 where
  pub position : ℕ
  pub pending : Option Control

-- the first line of form 1
abbrev pub first_line : Carriage
first_line = record { position = lines_of_form; pending = None }

-- the form of a position, 0 to 9,999
abbrev pub form_of : Carriage → ℕ
form_of carriage = carriage.position / lines_of_form

-- the line of a position, 1 to 66
abbrev pub line_of : Carriage → ℕ
line_of carriage = carriage.position % lines_of_form + 1

-- whether a position is at this line of its form
abbrev pub is_at_line : ℕ → ℕ → Bool
is_at_line line position = position % lines_of_form + 1 == line

-- how many lines a skip moves: the least number from 1 on that brings the carriage to this line
abbrev pub lines_to : ℕ → ℕ → ℕ
lines_to position line = 1 + position_or_len (λ k. is_at_line line (position + k)) (range_with_len 1 lines_of_form)

-- the position to which a movement brings the carriage
unfoldable pub position_after : Control → ℕ → ℕ
position_after (Space k) position = (position + k) % positions
position_after (Skip line) position = (position + lines_to position line) % positions

-- the carriage after a print: the pending movement is done and cleared, or one space if none is pending
abbrev pub after_print : Carriage → Carriage
after_print carriage =
    record { position = position_after (unwrap_or carriage.pending (Space 1)) carriage.position; pending = None }

-- the carriage once it was asked for a movement: an immediate one leaves the pending one, another takes its place
abbrev pub with_movement : Bool → Control → Carriage → Carriage
with_movement immediate control carriage =
    if immediate then record carriage { position = position_after control carriage.position }
    else record carriage { pending = Some control }

-- the same, if there is a movement
abbrev pub with_movement_of : Bool → Carriage → Result Control ControlFault → Result Carriage ControlFault
with_movement_of immediate carriage (Ok control) = Ok (with_movement immediate control carriage)
with_movement_of immediate carriage (Err fault) = Err fault

-- what a d-character does to the carriage
unfoldable pub controlled : Carriage → ℕ → Result Carriage ControlFault
controlled carriage char = with_movement_of (is_immediate char) carriage (movement_of char)

-- whether the carriage is at a line, if there is one
abbrev pub stands_at : Carriage → Option ℕ → Bool
stands_at carriage None = false
stands_at carriage (Some line) = line_of carriage == line

-- whether the carriage is at a channel's hole
abbrev pub is_at_channel : Carriage → ℕ → Bool
is_at_channel carriage channel = stands_at carriage (line_of_channel channel)

-- from 1 to 66 lines on
pub record IsMovedOn (old new : ℕ) : Type 0 where
  pub lines : ℕ
  pub least : 1 ≤ lines
  pub most : lines ≤ lines_of_form
  pub moved : new ≡ (old + lines) % positions
