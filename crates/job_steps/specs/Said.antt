-- The instruction at the I register, by what a feature makes of it or else by its operation, if it has one (own).
use Rattle.std.specs.Prelude.{ℕ, ◌+◌, ◌&&◌, nat_le, Bool, false, Option, None, Some, if◌then◌else◌}
use Rattle.core_1401.specs.Address.{effective_at}
use Rattle.core_1401.specs.Storage.{cell_at}
use Rattle.machine_tables.specs.declared.fitted.Fitted.{Fitted}
use Rattle.machine_tables.specs.declared.operation.Operation.{Operation}
use Rattle.machine_tables.specs.Operation.{is_unfitted_length}
use Rattle.machine_tables.specs.declared.stop.Stop.{Stop}
use Rattle.cpu_1401.specs.declared.instruction.Instruction.{Instruction}
use Rattle.cpu_1401.specs.Fetched.{cells_at}
use Rattle.cpu_1401.specs.Fitting.{fitted_at, fitted_instruction}
use Rattle.cpu_1401.specs.Instruction.{instruction_of}
use Rattle.machine_tables.specs.Operation.{operation_of}
use Rattle.cpu_1401.specs.State.{State}
use Rattle.cpu_1401.specs.Step.{perform}

-- the character at the I register
abbrev pub char_of : State → ℕ
char_of s = (cell_at s.storage s.i).char

-- how many characters the instruction there has
abbrev pub len_of : State → ℕ
len_of s = cells_at s.storage s.i

-- whether this length belongs to a feature that no machine here has
abbrev pub is_unfitted_at : Option Operation → ℕ → Bool
is_unfitted_at None len = false
is_unfitted_at (Some operation) len = is_unfitted_length operation len

-- its A address, or the A register as it is
abbrev pub a_of : ℕ → State → ℕ
a_of len s = if nat_le 4 len then effective_at s.storage (s.i + 1) else s.a

-- its B address, or its only address if that goes into both registers, or the B register as it is
abbrev pub b_of : Bool → ℕ → State → ℕ
b_of loads_both len s =
    if nat_le 7 len then effective_at s.storage (s.i + 4)
    else (if nat_le 4 len && loads_both then effective_at s.storage (s.i + 1) else s.b)

-- no instruction
abbrev pub nothing_said : Instruction
nothing_said = record { len = 0; a = 0; b = 0; d = 0; next = 0 }

-- what it says at this length
abbrev pub said_with : Option Operation → ℕ → State → Instruction
said_with None len s = nothing_said
said_with (Some operation) len s = instruction_of operation len s

-- what it says if a feature claims it, or else by its operation
abbrev pub said_as : Option Fitted → State → Instruction
said_as None s = said_with (operation_of (char_of s)) (len_of s) s
said_as (Some fitted) s = fitted_instruction s

-- the instruction at the I register
abbrev pub said_by : State → Instruction
said_by s = said_as (fitted_at s) s

-- why carrying it out at this length stops the machine, if no feature claims it
abbrev pub performed_stop : Option Operation → ℕ → State → Option Stop
performed_stop None len s = None
performed_stop (Some operation) len s = (perform operation (instruction_of operation len s) s).stop
