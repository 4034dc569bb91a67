-- The numbers of faults (own).
use Rattle.std.specs.Prelude.{ℕ}
use Rattle.devices_1401.specs.declared.fault.ControlFault.{ControlFault}
use Rattle.devices_1401.specs.declared.fault.ControlFault.TheVariants.{DChar, Carriage}

-- why the carriage can't be controlled
abbrev pub control_fault_number : ControlFault → ℕ
control_fault_number DChar = 1
control_fault_number Carriage = 2
