-- The instruction at a place of core storage, by its cells (A24-1403, "Instruction Format"; the choice of lengths is
-- own).
use Rattle.std.specs.Prelude.{ℕ, ◌+◌, min, if◌then◌else◌, List, [], drop, take, Option, None, Some}
use Rattle.bcd_1401.specs.declared.cell.Cell.{Cell}
use Rattle.core_1401.specs.Field.{next_mark_from}
use Rattle.core_1401.specs.Storage.{Storage, cell_at, is_in_core}
use Rattle.machine_tables.specs.declared.operation.Operation.{Operation}
use Rattle.cpu_1401.specs.Instruction.{begins_at}
use Rattle.machine_tables.specs.Operation.{form_of, operation_of}
use Rattle.cpu_1401.specs.State.{State}

-- the most cells that an instruction has
abbrev pub longest_instruction : ℕ
longest_instruction = 8

-- how many characters of an instruction are looked at, by its fifth; eight of what is no operation
abbrev pub longest_of : Option Operation → ℕ → ℕ
longest_of None fifth = longest_instruction
longest_of (Some operation) fifth = (form_of operation).longest fifth

-- how many cells the instruction at a place has, by the place of the next word mark
abbrev pub cells_at : Storage → ℕ → ℕ
cells_at storage at =
    min (longest_of (operation_of (cell_at storage at).char) (cell_at storage (at + 4)).char)
    (next_mark_from storage at)

-- the cells of the instruction at a place, whether or not the first has a word mark; none outside of core
unfoldable pub instruction_at : Storage → ℕ → List Cell
instruction_at storage at = if is_in_core storage at then take (cells_at storage at) (drop at storage) else []

-- the instruction at the I register; none if no instruction begins there
abbrev pub next_instruction : State → Option (List Cell)
next_instruction s = if begins_at s.storage s.i then Some (instruction_at s.storage s.i) else None
