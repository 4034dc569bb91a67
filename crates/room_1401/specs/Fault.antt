-- The numbers of faults (own).
use Rattle.std.specs.Prelude.{ℕ}
use Rattle.room_1401.specs.declared.fault.CloseFault.{CloseFault}
use Rattle.room_1401.specs.declared.fault.CloseFault.TheVariants as close_fault
use Rattle.room_1401.specs.declared.fault.StartFault.{StartFault}
use Rattle.room_1401.specs.declared.fault.StartFault.TheVariants as start_fault

-- why no shared room is made
abbrev pub start_fault_number : StartFault → ℕ
start_fault_number start_fault.Memory = 1
start_fault_number start_fault.Size = 2
start_fault_number start_fault.Seats = 3
start_fault_number start_fault.NoReader = 4

-- why one isn't closed
abbrev pub close_fault_number : CloseFault → ℕ
close_fault_number (close_fault.Unreturned back total) = 1
close_fault_number close_fault.NoReading = 2
