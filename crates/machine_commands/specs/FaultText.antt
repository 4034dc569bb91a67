-- The texts and the numbers of faults, as the console replies them (own).
use Rattle.std.specs.Prelude.{ℕ, List, codes}
use Rattle.machine_commands.specs.declared.fault.GlanceFault.{GlanceFault}
use Rattle.machine_commands.specs.declared.fault.GlanceFault.TheVariants as glance_fault
use Rattle.machine_commands.specs.declared.fault.RoomFault.{RoomFault}
use Rattle.machine_commands.specs.declared.fault.RoomFault.TheVariants as room_fault

-- a room that can't carry a command out
abbrev pub room_fault_text : RoomFault → List ℕ
room_fault_text room_fault.Memory = codes "FAULT 1 MEMORY"
room_fault_text room_fault.JournalFull = codes "FAULT 2 JOURNAL FULL"
room_fault_text room_fault.NoReading = codes "FAULT 3 NO READING"
room_fault_text room_fault.Unkept = codes "FAULT 4 UNKEPT"

-- its number
abbrev pub room_fault_number : RoomFault → ℕ
room_fault_number room_fault.Memory = 1
room_fault_number room_fault.JournalFull = 2
room_fault_number room_fault.NoReading = 3
room_fault_number room_fault.Unkept = 4

-- a glance that shows nothing
abbrev pub glance_fault_text : GlanceFault → List ℕ
glance_fault_text glance_fault.Range = codes "GLANCE FAULT 1 RANGE"
glance_fault_text glance_fault.Gone = codes "GLANCE FAULT 2 GONE"

-- its number
abbrev pub glance_fault_number : GlanceFault → ℕ
glance_fault_number glance_fault.Range = 1
glance_fault_number glance_fault.Gone = 2
