-- The numbers of faults (own).
use Rattle.std.specs.Prelude.{ℕ}
use Rattle.machine_image.specs.declared.fault.ImageFault.{ImageFault}
use Rattle.machine_image.specs.declared.fault.ImageFault.TheVariants.{Memory, Header, BadRecord, Range, Truncated}

-- why a text is no image
abbrev pub image_fault_number : ImageFault → ℕ
image_fault_number Memory = 1
image_fault_number Header = 2
image_fault_number BadRecord = 3
image_fault_number Range = 4
image_fault_number Truncated = 5
