-- Why the next step stops the machine, with the places (own).
use Rattle.std.specs.Prelude.{◌≡◌, ◌+◌, ◌==◌, true, false, length, Option, Some, None, slice_index, if◌then◌else◌}
use Rattle.std.specs.Option.{option_map}
use Rattle.bcd_1401.specs.Graphic.{graphics}
use Rattle.core_1401.specs.Storage.{cell_at, is_in_core}
use Rattle.devices_1401.specs.Control.{line_of_channel, low_of}
use Rattle.devices_1401.specs.Devices.{is_full}
use Rattle.cpu_1401.specs.declared.instruction.Instruction.{Instruction}
use Rattle.machine_tables.specs.declared.operation.Operation.TheVariants as op
use Rattle.machine_tables.specs.declared.stop.Stop.{Stop}
use Rattle.machine_tables.specs.declared.stop.Stop.TheVariants as stop
use Rattle.machine_tables.specs.Fitted.{is_fitted_with}
use Rattle.machine_tables.specs.Operation.{is_unfitted, operation_of}
use Rattle.cpu_1401.specs.Fitting.{fitted_at}
use Rattle.cpu_1401.specs.State.{State}
use Rattle.cpu_1401.specs.Tape.{unit_at}
use Rattle.machine_tables.specs.declared.tape_unit.TapeUnit.{TapeUnit}
use Rattle.fields_1401.specs.Outcome.{stop_of}
use Rattle.job_steps.specs.declared.reason.Reason.{Reason}
use Rattle.job_steps.specs.declared.reason.Reason.TheVariants as reason
use Rattle.job_steps.specs.FieldReason.{IsFieldSo, field_stop}
use Rattle.job_steps.specs.Said.{char_of, is_unfitted_at, len_of, said_by}

-- the stop that a reason is reported as
abbrev pub stop_named : Reason → Stop
stop_named reason.Halt = stop.Halt
stop_named reason.NoCard = stop.Reader
stop_named reason.PaperFull = stop.Forms
stop_named reason.StackerFull = stop.Stacker
stop_named (reason.NoPlace at) = stop.NoMark
stop_named (reason.NoMark at) = stop.NoMark
stop_named (reason.NoOperation char) = stop.OpCode
stop_named (reason.NotFitted char) = stop.NotFitted
stop_named (reason.NotFittedAt char len) = stop.NotFitted
stop_named (reason.NoSuchLength char len) = stop.Length
stop_named (reason.Fields why) = stop_of (field_stop why)
stop_named (reason.NoHole channel) = stop.Carriage
stop_named (reason.UnknownD char d) = stop.DChar
stop_named reason.NoUnit = stop.NotFitted
stop_named (reason.NoReel unit) = stop.Tape
stop_named (reason.Unloaded unit) = stop.Tape
stop_named (reason.NoRing unit) = stop.Tape
stop_named (reason.NoRecord unit after) = stop.Tape
stop_named (reason.NoRoom unit after) = stop.Tape
stop_named (reason.NoGroupMark at) = stop.Address
stop_named (reason.EmptyRecord at) = stop.Address
stop_named (reason.BeyondCore at) = stop.Address

-- what a reason says of an instruction of a machine without reels is so
abbrev pub IsSoOf : Instruction → State → Reason → Type 0
IsSoOf this s reason.Halt = operation_of (char_of s) ≡ Some op.Halt
IsSoOf this s reason.NoCard = length s.devices.hopper ≡ 0
IsSoOf this s reason.PaperFull = is_full s.devices.paper ≡ true
IsSoOf this s reason.StackerFull = is_full s.devices.stacker ≡ true
IsSoOf this s (reason.NoPlace at) = (at ≡ s.i) × (is_in_core s.storage at ≡ false)
IsSoOf this s (reason.NoMark at) =
    (at ≡ s.i) × (is_in_core s.storage at ≡ true) × ((cell_at s.storage at).mark ≡ false)
IsSoOf this s (reason.NoOperation char) =
    (char ≡ char_of s) × (operation_of char ≡ None) × (is_unfitted char ≡ false)
IsSoOf this s (reason.NotFitted char) =
    (char ≡ char_of s) × (operation_of char ≡ None) × (is_unfitted char ≡ true) × (fitted_at s ≡ None)
IsSoOf this s (reason.NotFittedAt char len) =
    (char ≡ char_of s) × (len ≡ len_of s) × (is_unfitted_at (operation_of char) len ≡ true) × (fitted_at s ≡ None)
IsSoOf this s (reason.NoSuchLength char len) =
    (char ≡ char_of s) × (len ≡ len_of s) × (is_fitted_with s.features (slice_index graphics char) len ≡ false)
IsSoOf this s (reason.Fields why) = IsFieldSo s.storage this.a this.b why
IsSoOf this s (reason.NoHole channel) = (channel ≡ low_of this.d) × (line_of_channel channel ≡ None)
IsSoOf this s (reason.UnknownD char d) = (char ≡ char_of s) × (d ≡ this.d)
IsSoOf this s reason.NoUnit = unit_at s.storage (s.i + 1) ≡ None
IsSoOf this s (reason.NoReel unit) = option_map (λ (named : TapeUnit). named.number) (unit_at s.storage (s.i + 1)) ≡ Some unit
IsSoOf this s (reason.Unloaded unit) = ⊥
IsSoOf this s (reason.NoRing unit) = ⊥
IsSoOf this s (reason.NoRecord unit after) = ⊥
IsSoOf this s (reason.NoRoom unit after) = ⊥
IsSoOf this s (reason.NoGroupMark at) = ⊥
IsSoOf this s (reason.EmptyRecord at) = ⊥
IsSoOf this s (reason.BeyondCore at) = ⊥

-- what a reason says of the machine is so
abbrev pub IsSo : State → Reason → Type 0
IsSo s why = IsSoOf (said_by s) s why

-- why nothing can be read, written or punched, if it is so
abbrev pub reader_stop : State → Option Stop
reader_stop s = if length s.devices.hopper == 0 then Some stop.Reader else None

abbrev pub forms_stop : State → Option Stop
forms_stop s = if is_full s.devices.paper then Some stop.Forms else None

abbrev pub stacker_stop : State → Option Stop
stacker_stop s = if is_full s.devices.stacker then Some stop.Stacker else None
