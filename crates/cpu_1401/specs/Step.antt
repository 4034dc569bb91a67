-- One step of the machine: the checks in their order, then what the operation does (A24-1403, the descriptions of the
-- instructions; the order of the checks is own).
use Rattle.std.specs.Prelude.{ℕ, ◌==◌, false, Option, None, Some, if◌then◌else◌}
use Rattle.core_1401.specs.Storage.{cell_at}
use Rattle.devices_1401.specs.Carriage.{controlled}
use Rattle.fields_1401.specs.Arithmetic.{sum_at, difference_at, zero_sum_at, zero_difference_at}
use Rattle.fields_1401.specs.Compare.{comparison_at}
use Rattle.fields_1401.specs.Edit.{edit_at}
use Rattle.fields_1401.specs.Load.{load_at}
use Rattle.fields_1401.specs.Marks.{set_marks_at, clear_marks_at, clear_down_at}
use Rattle.fields_1401.specs.Move.{move_at}
use Rattle.fields_1401.specs.Parts.{digit_moved_at, zone_moved_at}
use Rattle.fields_1401.specs.Suppress.{suppress_at}
use Rattle.cpu_1401.specs.declared.instruction.Instruction.{Instruction}
use Rattle.machine_tables.specs.declared.operation.Operation.{Operation}
use Rattle.machine_tables.specs.declared.operation.Operation.TheVariants as op
use Rattle.machine_tables.specs.declared.stop.Stop.TheVariants as stop
use Rattle.cpu_1401.specs.Branch.{after_branch, branch_on_cell, go_on, passes}
use Rattle.cpu_1401.specs.CardsAndPrinter.{after_write, after_control, after_work}
use Rattle.cpu_1401.specs.CardsAndPrinter.{punching, reading, reading_and_punching}
use Rattle.cpu_1401.specs.CardsAndPrinter.{writing_and_punching, writing_and_reading, all_three}
use Rattle.cpu_1401.specs.FieldStep.{after_field, after_comparison, after_clear}
use Rattle.cpu_1401.specs.Instruction.{begins_at, instruction_of, length_at}
use Rattle.machine_tables.specs.Operation.{operation_of, is_unfitted, is_unfitted_length, has_length}
use Rattle.cpu_1401.specs.RegisterStep.{after_store}
use Rattle.cpu_1401.specs.State.{State}
use Rattle.cpu_1401.specs.Stepped.{Stepped, step_to, stopped}

-- what an operation does
abbrev pub perform : Operation → Instruction → State → Stepped
perform op.Add this s = after_field this s (sum_at s.storage this.a this.b)
perform op.Subtract this s = after_field this s (difference_at s.storage this.a this.b)
perform op.ZeroAdd this s = after_field this s (zero_sum_at s.storage this.a this.b)
perform op.ZeroSubtract this s = after_field this s (zero_difference_at s.storage this.a this.b)
perform op.Move this s = after_field this s (move_at s.storage this.a this.b)
perform op.Load this s = after_field this s (load_at s.storage this.a this.b)
perform op.MoveDigit this s = after_field this s (digit_moved_at s.storage this.a this.b)
perform op.MoveZone this s = after_field this s (zone_moved_at s.storage this.a this.b)
perform op.SetWordMark this s = after_field this s (set_marks_at s.storage this.a this.b)
perform op.ClearWordMark this s = after_field this s (clear_marks_at s.storage this.a this.b)
perform op.ClearStorage this s = after_clear this s (clear_down_at s.storage this.b)
perform op.Compare this s = after_comparison this s (comparison_at s.storage this.a this.b)
perform op.ZeroSuppress this s = after_field this s (suppress_at s.storage this.a this.b)
perform op.Edit this s = after_field this s (edit_at s.storage this.a this.b)
perform op.Branch this s = after_branch this s
perform op.BranchOnCell this s = branch_on_cell (passes this.d) this s
perform op.StoreA this s = after_store s.a this s
perform op.StoreB this s = after_store s.b this s
perform op.NoOperation this s = step_to (go_on false this s)
perform op.Halt this s = record { state = go_on (this.len == 4) this s; stop = Some stop.Halt }
perform op.SelectStacker this s = step_to (go_on (this.len == 5) this s)
perform op.ReadCard this s = after_work reading this s
perform op.WriteLine this s = after_write this s
perform op.WriteAndRead this s = after_work writing_and_reading this s
perform op.PunchCard this s = after_work punching this s
perform op.ReadAndPunch this s = after_work reading_and_punching this s
perform op.WriteAndPunch this s = after_work writing_and_punching this s
perform op.WriteReadAndPunch this s = after_work all_three this s
perform op.ControlCarriage this s = after_control this s (controlled s.devices.carriage this.d)

-- an operation at a length: it must be fitted, and the length must be one of its own
abbrev pub check_length : Operation → ℕ → State → Stepped
check_length operation len s =
    if is_unfitted_length operation len then stopped stop.NotFitted s
    else (
    if has_length operation len then perform operation (instruction_of operation len s) s
    else stopped stop.Length s
    )

-- the character must be an operation; one of a feature that this machine hasn't got isn't fitted at any length
abbrev pub check_operation : Option Operation → ℕ → State → Stepped
check_operation None char s = stopped (if is_unfitted char then stop.NotFitted else stop.OpCode) s
check_operation (Some operation) char s = check_length operation (length_at s.storage operation s.i) s

-- one step: an instruction must begin at the I register
unfoldable pub step : State → Stepped
step s =
    let char = (cell_at s.storage s.i).char in
    if begins_at s.storage s.i then check_operation (operation_of char) char s else stopped stop.NoMark s
