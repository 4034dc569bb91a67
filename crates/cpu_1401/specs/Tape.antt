-- The tape unit of an instruction (A24-1403, "Magnetic Tape", from memory).
use Rattle.std.specs.Prelude.{ℕ, ◌+◌, ◌==◌, nat_le, Bool, List, length, Option, None, Some, codes, if◌then◌else◌}
use Rattle.std.specs.Prelude.{slice_index}
use Rattle.std.specs.List.{list_any}
use Rattle.bcd_1401.specs.Graphic.{graphics}
use Rattle.core_1401.specs.Storage.{Storage, cell_at}
use Rattle.machine_tables.specs.TapeUnit.{unit_named}
use Rattle.machine_tables.specs.declared.tape_unit.TapeUnit.{TapeUnit}
use Rattle.machine_tables.specs.declared.stop.Stop.{Stop}
use Rattle.machine_tables.specs.declared.stop.Stop.TheVariants as stop
use Rattle.cpu_1401.specs.State.{State}
use Rattle.cpu_1401.specs.declared.instruction.Instruction.{Instruction}

-- the graphic of the character at a place
abbrev pub graphic_at : Storage → ℕ → ℕ
graphic_at storage at = slice_index graphics (cell_at storage at).char

-- the unit that the three characters from a place on name, as they stand; none if they aren't all in core
abbrev pub unit_at : Storage → ℕ → Option TapeUnit
unit_at storage at =
    if nat_le (at + 3) (length storage)
    then unit_named (graphic_at storage at) (graphic_at storage (at + 1)) (graphic_at storage (at + 2))
    else None

-- the d-characters: a record is read or written; a unit backspaces, erases, writes a tape mark, rewinds, or rewinds and
-- unloads
abbrev pub transfer_letters : List ℕ
transfer_letters = codes "RW"

abbrev pub control_letters : List ℕ
control_letters = codes "BEMRU"

-- the stop of a machine that has no reels, by the unit and by whether the d-character is one of these
abbrev pub tape_stop_by : Option TapeUnit → Bool → Stop
tape_stop_by None known = stop.NotFitted
tape_stop_by (Some unit) known = if known then stop.Tape else stop.DChar

-- whether a character's graphic is one of these letters
abbrev pub is_letter : ℕ → List ℕ → Bool
is_letter d letters = list_any (λ each. each == slice_index graphics d) letters

abbrev pub tape_stop : List ℕ → Instruction → State → Stop
tape_stop letters this s = tape_stop_by (unit_at s.storage (s.i + 1)) (is_letter this.d letters)
