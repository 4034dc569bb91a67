-- The numbers of faults (own).
use Rattle.std.specs.Prelude.{ℕ}
use Rattle.core_1401.specs.declared.fault.CoreFault.{CoreFault}
use Rattle.core_1401.specs.declared.fault.CoreFault.TheVariants.{Memory, Size}

-- why no core storage is made
abbrev pub core_fault_number : CoreFault → ℕ
core_fault_number Memory = 1
core_fault_number Size = 2
