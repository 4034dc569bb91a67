-- What the end of a session means for a program (own).
use Rattle.std.specs.Prelude.{⊤, Result, Ok, Err}
use Rattle.room_alone.specs.declared.terminal_fault.ConsoleFault.{ConsoleFault}
use Rattle.room_alone.specs.declared.terminal_fault.ConsoleFault.TheVariants as console
use Rattle.room_alone.specs.declared.terminal_fault.SessionFault.{SessionFault}
use Rattle.program_rooms.specs.declared.session_fault.HoldFault.{HoldFault}
use Rattle.program_rooms.specs.declared.session_fault.HoldFault.TheVariants as fault

-- what the end of a session is for the program
abbrev pub session_outcome : Result ⊤ SessionFault → Result ⊤ HoldFault
session_outcome (Ok _) = Ok tt
session_outcome (Err why) = Err (fault.Session why)

-- what the fault of a session on a new machine is for the program
abbrev pub console_fault : ConsoleFault → HoldFault
console_fault console.Size = fault.Size
console_fault console.Memory = fault.Memory
console_fault (console.Ended why) = fault.Session why
