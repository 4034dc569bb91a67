-- Cards read and punched, lines printed, and the carriage (A24-1403, "Input-Output Operations"; the order of the checks
-- and what the registers hold afterwards are own).
use Rattle.std.specs.Prelude.{ℕ, ◌+◌, ◌==◌, ◌&&◌, ◌||◌, not, Bool, true, false, List, [], ◌∷◌, length, map, slice_get}
use Rattle.std.specs.Prelude.{nat_le, Option, None, Some, Result, Ok, Err, if◌then◌else◌}
use Rattle.std.specs.List.{range_with_len}
use Rattle.std.specs.Option.{is_some}
use Rattle.bcd_1401.specs.declared.cell.Cell.{Cell}
use Rattle.core_1401.specs.Places.{with_cells}
use Rattle.core_1401.specs.Storage.{Storage, blank, cell_at, with_char, with_mark}
use Rattle.devices_1401.specs.Card.{card_columns}
use Rattle.devices_1401.specs.Carriage.{Carriage}
use Rattle.devices_1401.specs.Devices.{Devices, after_read, is_full, printed, punched}
use Rattle.devices_1401.specs.declared.card.Card.{Card}
use Rattle.devices_1401.specs.declared.fault.ControlFault.{ControlFault}
use Rattle.devices_1401.specs.declared.fault.ControlFault.TheVariants as fault
use Rattle.cpu_1401.specs.declared.io_request.IoRequest.{IoRequest}
use Rattle.cpu_1401.specs.declared.io_request.CardWork.{CardWork}
use Rattle.cpu_1401.specs.declared.instruction.Instruction.{Instruction}
use Rattle.machine_tables.specs.declared.stop.Stop.{Stop}
use Rattle.machine_tables.specs.declared.stop.Stop.TheVariants as stop
use Rattle.cpu_1401.specs.Branch.{branch_to, go_on}
use Rattle.cpu_1401.specs.State.{State}
use Rattle.cpu_1401.specs.Stepped.{Stepped, step_to, stopped}

-- the characters of n places from one on upwards
abbrev pub chars_from : Storage → ℕ → ℕ → List ℕ
chars_from storage at n = map (λ i. (cell_at storage (at + i)).char) (range_with_len 0 n)

-- these characters in the places from one on upwards; the word marks there stay
abbrev pub with_chars_from : Storage → ℕ → List ℕ → Storage
with_chars_from storage at [] = storage
with_chars_from storage at (char ∷ chars) = with_chars_from (with_char storage at char) (at + 1) chars

-- the areas of storage: a card is read into places 001 to 080 and punched from 101 to 180, a line printed from 201 to
-- 332
abbrev pub read_area : ℕ
read_area = 1

abbrev pub punch_area : ℕ
punch_area = 101

abbrev pub print_area : ℕ
print_area = 201

abbrev pub print_positions : ℕ
print_positions = 132

-- the places after the areas, one of which an operation leaves in the B register
abbrev pub beyond_read_area : ℕ
beyond_read_area = read_area + card_columns

abbrev pub beyond_punch_area : ℕ
beyond_punch_area = punch_area + card_columns

abbrev pub beyond_print_area : ℕ
beyond_print_area = print_area + print_positions

-- what is printed: the characters of the print area
abbrev pub characters_line : Storage → List ℕ
characters_line storage = chars_from storage print_area print_positions

-- or its word marks: a 1 for each, and a blank for none
abbrev pub mark_char : Cell → ℕ
mark_char cell = if cell.mark then 1 else 0

abbrev pub marks_line : Storage → List ℕ
marks_line storage = map (λ i. mark_char (cell_at storage (print_area + i))) (range_with_len 0 print_positions)

-- why it can't be done: the paper is looked at first, then the hopper, then the stacker
abbrev pub first_io_stop : IoRequest → Devices → Option Stop
first_io_stop request devices =
    if is_some request.line && is_full devices.paper then Some stop.Forms
    else (
    if request.reads && (length devices.hopper == 0) then Some stop.Reader
    else (if request.punches && is_full devices.stacker then Some stop.Stacker else None)
    )

-- a line printed, if there is one
abbrev pub with_line : Option (List ℕ) → State → State
with_line None s = s
with_line (Some text) s = record s { devices = printed s.devices text }

-- the first card of the hopper in the read area
abbrev pub with_card : Option Card → State → State
with_card None s = s
with_card (Some card) s =
    record s { storage = with_chars_from s.storage read_area card.0; devices = after_read s.devices }

-- a card read, if one is
abbrev pub with_read : Bool → State → State
with_read false s = s
with_read true s = with_card (slice_get s.devices.hopper 0) s

-- the characters of an area of 80 places, on a card
abbrev pub card_at : Storage → ℕ → Card
card_at storage area = record { 0 = chars_from storage area card_columns }

-- the characters of the punch area on a card
abbrev pub card_of : Storage → Card
card_of storage = record { 0 = chars_from storage punch_area card_columns }

-- a card punched, if one is
abbrev pub with_punch : Bool → State → State
with_punch false s = s
with_punch true s = record s { devices = punched s.devices (card_of s.storage) }

-- all that is asked for, in the order write, read, punch
abbrev pub with_all : IoRequest → State → State
with_all request s = with_punch request.punches (with_read request.reads (with_line request.line s))

-- then a branch if there is an address; else the next instruction, with the place after the last area in the B
-- register
abbrev pub move_on : Bool → ℕ → Instruction → State → State
move_on true b this s = branch_to this s
move_on false b this s = record s { i = this.next; b = b }

-- nothing is done if something hinders
abbrev pub unless_hindered : Option Stop → State → State → Stepped
unless_hindered (Some why) s after = stopped why s
unless_hindered None s after = step_to after

-- an operation of the card reader, the punch and the printer; b is the place after the area of the last
abbrev pub after_cards : IoRequest → ℕ → Instruction → State → Stepped
after_cards request b this s =
    unless_hindered (first_io_stop request s.devices) s (move_on (nat_le 4 this.len) b this (with_all request s))

-- what the six operations without a d-character do, each by its name
abbrev pub reading : CardWork
reading = record { writes = false; reads = true; punches = false }

abbrev pub writing_and_reading : CardWork
writing_and_reading = record { writes = true; reads = true; punches = false }

abbrev pub punching : CardWork
punching = record { writes = false; reads = false; punches = true }

abbrev pub reading_and_punching : CardWork
reading_and_punching = record { writes = false; reads = true; punches = true }

abbrev pub writing_and_punching : CardWork
writing_and_punching = record { writes = true; reads = false; punches = true }

abbrev pub all_three : CardWork
all_three = record { writes = true; reads = true; punches = true }

-- what is asked for by such work: the line is that of the print area's characters
abbrev pub asks : CardWork → Storage → IoRequest
asks work storage =
    record {
      line = if work.writes then Some (characters_line storage) else None;
      reads = work.reads;
      punches = work.punches;
    }

-- the place after the area of the last that is done
abbrev pub beyond_last : CardWork → ℕ
beyond_last work =
    if work.punches then beyond_punch_area else (if work.reads then beyond_read_area else beyond_print_area)

-- an operation that does such work
abbrev pub after_work : CardWork → Instruction → State → Stepped
after_work work this s = after_cards (asks work s.storage) (beyond_last work) this s

-- whether an instruction of the printer with this length has a d-character
abbrev pub has_d : ℕ → Bool
has_d len = (len == 2) || (len == 5)

-- a line written alone: the word marks of the print area, or its characters
abbrev pub line_alone : Bool → Storage → IoRequest
line_alone marks storage =
    record {
      line = if marks then Some (marks_line storage)
          else Some (characters_line storage);
      reads = false;
      punches = false;
    }

-- the d-character that asks for word marks
abbrev pub lozenge : ℕ
lozenge = 60

-- a line written: the lozenge as d-character asks for word marks, and any other is a stop
abbrev pub after_write : Instruction → State → Stepped
after_write this s =
    if has_d this.len && not (this.d == lozenge) then stopped stop.DChar s
    else after_cards (line_alone (has_d this.len) s.storage) beyond_print_area this s

-- the stop of a carriage that can't be controlled: the one of the same name
abbrev pub control_stop : ControlFault → Stop
control_stop fault.DChar = stop.DChar
control_stop fault.Carriage = stop.Carriage

-- the carriage controlled
abbrev pub after_control : Instruction → State → Result Carriage ControlFault → Stepped
after_control this s (Ok carriage) =
    step_to (go_on (this.len == 5) this (record s { devices = record s.devices { carriage = carriage } }))
after_control this s (Err why) = stopped (control_stop why) s

-- the read area cleared, the characters of a card put there, and a word mark at its first place
abbrev pub with_program_card : Storage → List ℕ → Storage
with_program_card storage chars =
    let cleared = with_cells storage card_columns card_columns (λ i. blank) in
    with_mark (with_chars_from cleared read_area chars) read_area true

-- the load key: the first card of the hopper, if there is one, and the next instruction is at its first place
abbrev pub load_card : Option Card → State → State
load_card None s = s
load_card (Some card) s =
    record s { storage = with_program_card s.storage card.0; i = read_area; devices = after_read s.devices }

abbrev pub load : State → State
load s = load_card (slice_get s.devices.hopper 0) s

-- the machine with other devices
abbrev pub with_devices : Devices → State → State
with_devices devices s = record s { devices = devices }
