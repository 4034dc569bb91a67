-- The instruction at the I register, by the place of the next word mark (A24-1403, "Instruction Format", "Address
-- Registers").
use Rattle.std.specs.Prelude.{ℕ, ◌+◌, ◌-◌, ◌%◌, ◌&&◌, nat_le, Bool, min, if◌then◌else◌}
use Rattle.core_1401.specs.Address.{addresses, effective_at}
use Rattle.core_1401.specs.Field.{next_mark_from}
use Rattle.core_1401.specs.Storage.{Storage, is_in_core, cell_at}
use Rattle.cpu_1401.specs.declared.instruction.Instruction.{Instruction}
use Rattle.machine_tables.specs.declared.operation.Operation.{Operation}
use Rattle.machine_tables.specs.Operation.{form_of}
use Rattle.cpu_1401.specs.State.{State}

-- whether an instruction begins at a place
abbrev pub begins_at : Storage → ℕ → Bool
begins_at storage at = is_in_core storage at && (cell_at storage at).mark

-- how many characters of the instruction at a place are looked at
abbrev pub longest_at : Storage → Operation → ℕ → ℕ
longest_at storage operation at = (form_of operation).longest (cell_at storage (at + 4)).char

-- how many characters the instruction at a place has
abbrev pub length_at : Storage → Operation → ℕ → ℕ
length_at storage operation at = min (longest_at storage operation at) (next_mark_from storage at)

-- an instruction of this length: without an address it takes the registers as they stand, with one it loads both or the
-- A register alone, with two each has its own
abbrev pub instruction_of : Operation → ℕ → State → Instruction
instruction_of operation len s = record {
  len = len;
  a = if nat_le 4 len then effective_at s.storage (s.i + 1) else s.a;
  b =
      if nat_le 7 len then effective_at s.storage (s.i + 4)
      else (if nat_le 4 len && (form_of operation).loads_both then effective_at s.storage (s.i + 1) else s.b);
  d = (cell_at s.storage (s.i + len - 1)).char;
  next = (s.i + len) % addresses;
}
