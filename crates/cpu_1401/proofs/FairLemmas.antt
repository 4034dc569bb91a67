-- A step that stops, and is no halt, leaves the machine as it was; and no step stops at the limit of a run.
use Rattle.std.proofs.Common.{◌≡◌, ◌≢◌, ◌∙◌, ℕ, ◌+◌, ◌==◌, ◌&&◌, not, Bool, true, false, List, length}
use Rattle.std.proofs.Common.{Option, None, Some, Result, Ok, Err, refl, sym}
use Rattle.std.specs.Prelude.{IfSome, if◌then◌else◌, is_some, nat_le}
use Rattle.bcd_1401.specs.declared.cell.Cell.{Cell}
use Rattle.core_1401.specs.Storage.{is_in_core, cell_at}
use Rattle.devices_1401.specs.Carriage.{Carriage, controlled}
use Rattle.devices_1401.specs.Devices.{Devices, is_full}
use Rattle.devices_1401.specs.declared.fault.ControlFault.{ControlFault}
use Rattle.devices_1401.specs.declared.fault.ControlFault.TheVariants as fault
use Rattle.fields_1401.specs.Arithmetic.{sum_at, difference_at, zero_sum_at, zero_difference_at}
use Rattle.fields_1401.specs.Compare.{comparison_at}
use Rattle.fields_1401.specs.Edit.{edit_at}
use Rattle.fields_1401.specs.declared.done.Done.{Done}
use Rattle.fields_1401.specs.declared.done.FieldStop.{FieldStop}
use Rattle.fields_1401.specs.declared.done.FieldStop.TheVariants as field_stop
use Rattle.fields_1401.specs.Load.{has_places, load_at}
use Rattle.fields_1401.specs.Marks.{set_marks_at, clear_marks_at, clear_down_at}
use Rattle.fields_1401.specs.Move.{move_at}
use Rattle.fields_1401.specs.Outcome.{Outcome, stop_of}
use Rattle.fields_1401.specs.Parts.{digit_moved_at, zone_moved_at}
use Rattle.fields_1401.specs.Suppress.{suppress_at}
use Rattle.machine_tables.specs.Operation.{operation_of, is_unfitted, is_unfitted_length, has_length}
use Rattle.machine_tables.specs.declared.fitted.Fitted.{Fitted}
use Rattle.machine_tables.specs.declared.fitted.Fitted.TheVariants as fitted
use Rattle.machine_tables.specs.declared.operation.Operation.{Operation}
use Rattle.machine_tables.specs.declared.operation.Operation.TheVariants as op
use Rattle.machine_tables.specs.declared.tape_unit.TapeUnit.{TapeUnit}
use Rattle.machine_tables.specs.declared.stop.Stop.{Stop}
use Rattle.machine_tables.specs.declared.stop.Stop.TheVariants as stop
use Rattle.fields_1401.specs.AddressSums.{address_sum_at}
use Rattle.fields_1401.specs.Products.{product_at}
use Rattle.fields_1401.specs.Quotients.{quotient_at}
use Rattle.fields_1401.specs.Records.{record_at}
use Rattle.cpu_1401.specs.Branch.{after_branch, branch_on_cell, has_char, passes}
use Rattle.cpu_1401.specs.CardsAndPrinter.{after_cards, after_control, after_write, after_work, all_three, asks}
use Rattle.cpu_1401.specs.CardsAndPrinter.{beyond_last, beyond_print_area, has_d, first_io_stop, line_alone}
use Rattle.cpu_1401.specs.CardsAndPrinter.{lozenge, move_on, punching, reading, reading_and_punching, unless_hindered}
use Rattle.cpu_1401.specs.CardsAndPrinter.{with_all, writing_and_punching, writing_and_reading}
use Rattle.cpu_1401.specs.Chaining.{again, keeping, keeping_d, shares_bit}
use Rattle.cpu_1401.specs.FieldStep.{after_field, after_comparison, after_clear}
use Rattle.cpu_1401.specs.Fitting.{after_second, fitted_at, fitted_instruction, fitted_step, perform_fitted, step_as}
use Rattle.cpu_1401.specs.Instruction.{begins_at, instruction_of, length_at}
use Rattle.cpu_1401.specs.RegisterStep.{after_store}
use Rattle.cpu_1401.specs.State.{State}
use Rattle.cpu_1401.specs.Step.{check_length, check_operation, perform, step}
use Rattle.cpu_1401.specs.Stepped.{Stepped, step_to, stopped}
use Rattle.cpu_1401.specs.Tape.{control_letters, is_letter, tape_stop, tape_stop_by, transfer_letters, unit_at}
use Rattle.cpu_1401.specs.declared.instruction.Instruction.{Instruction}
use Rattle.cpu_1401.specs.declared.io_request.CardWork.{CardWork}
use Rattle.cpu_1401.specs.declared.io_request.IoRequest.{IoRequest}

-- what a step may come to
pub record IsFair (s : State) (t : Stepped) : Type 0 where
  pub unchanged : IfSome t.stop (λ why. why ≢ stop.Halt → t.state ≡ s)
  pub limit : t.stop ≢ Some stop.Limit

-- it was carried out
carried : (s after : State) → IsFair s (step_to after)
carried s after = record { unchanged = tt; limit = λ e. cc }

-- it halts
halted : (s after : State) → IsFair s (record { state = after; stop = Some stop.Halt })
halted s after = record { unchanged = λ other. absurd (other refl); limit = λ e. cc }

-- it was refused, and not for the limit
refused : (s : State) (why : Stop) → why ≢ stop.Limit → IsFair s (stopped why s)
refused s why other = record { unchanged = λ h. refl; limit = λ e. other cc }

either : (s : State) (test : Bool) (x y : Stepped) → IsFair s x → IsFair s y → IsFair s (if test then x else y)
either s true x y fx fy = fx
either s false x y fx fy = fy

-- operations on fields
field_why : (why : FieldStop) → stop_of why ≢ stop.Limit
field_why field_stop.Address = λ e. cc
field_why field_stop.Overlap = λ e. cc

field_fair : (this : Instruction) (s : State) (outcome : Outcome) → IsFair s (after_field this s outcome)
field_fair this s (Ok done) = carried s _
field_fair this s (Err why) = refused s (stop_of why) (field_why why)

comparison_fair : (this : Instruction) (s : State) (outcome : Result Done FieldStop)
    → IsFair s (after_comparison this s outcome)
comparison_fair this s (Ok done) = carried s _
comparison_fair this s (Err why) = refused s (stop_of why) (field_why why)

clear_fair : (this : Instruction) (s : State) (outcome : Outcome) → IsFair s (after_clear this s outcome)
clear_fair this s (Ok done) = either s (this.len == 7) _ _ (carried s _) (carried s _)
clear_fair this s (Err why) = refused s (stop_of why) (field_why why)

store_fair : (address : ℕ) (this : Instruction) (s : State) → IsFair s (after_store address this s)
store_fair address this s =
    either s (has_places s.storage this.a 3) _ _ (carried s _) (refused s stop.Address (λ e. cc))

second_fair : (this : Instruction) (s : State) → IsFair s (after_second this s)
second_fair this s =
    either s (has_places s.storage this.a 3) _ _ (carried s _) (refused s stop.Address (λ e. cc))

-- branches
on_cell_fair : (test : Cell → Bool) (this : Instruction) (s : State) → IsFair s (branch_on_cell test this s)
on_cell_fair test this s =
    either s (is_in_core s.storage this.b) _ _ (carried s _) (refused s stop.Address (λ e. cc))

branch_fair : (this : Instruction) (s : State) → IsFair s (after_branch this s)
branch_fair this s =
    either s (this.len == 4) _ _ (carried s _)
    (either s (this.len == 5) _ _ (carried s _) (on_cell_fair (has_char this.d) this s))

-- cards and lines
hindered_fair : (s after : State) (why : Option Stop) → why ≢ Some stop.Limit → IsFair s (unless_hindered why s after)
hindered_fair s after None other = carried s after
hindered_fair s after (Some why) other = refused s why (λ e. other cc)

io_why : (request : IoRequest) (devices : Devices) → first_io_stop request devices ≢ Some stop.Limit
io_why request devices =
    let third : Option Stop = if request.punches && is_full devices.stacker then Some stop.Stacker else None in
    let second : Option Stop = if request.reads && (length devices.hopper == 0) then Some stop.Reader else third in
    by (is_some request.line && is_full devices.paper) (Some stop.Forms) second (λ e. cc)
    (by (request.reads && (length devices.hopper == 0)) (Some stop.Reader) third (λ e. cc)
    (by (request.punches && is_full devices.stacker) (Some stop.Stacker) None (λ e. cc) (λ e. cc)))
  where
    by : (test : Bool) (x y : Option Stop) → x ≢ Some stop.Limit → y ≢ Some stop.Limit
        → (if test then x else y) ≢ Some stop.Limit
    by true x y fx fy = fx
    by false x y fx fy = fy

cards_fair : (request : IoRequest) (b : ℕ) (this : Instruction) (s : State) → IsFair s (after_cards request b this s)
cards_fair request b this s =
    hindered_fair s (move_on (nat_le 4 this.len) b this (with_all request s)) (first_io_stop request s.devices)
    (io_why request s.devices)

work_fair : (work : CardWork) (this : Instruction) (s : State) → IsFair s (after_work work this s)
work_fair work this s = cards_fair (asks work s.storage) (beyond_last work) this s

write_fair : (this : Instruction) (s : State) → IsFair s (after_write this s)
write_fair this s =
    either s (has_d this.len && not (this.d == lozenge)) _ _ (refused s stop.DChar (λ e. cc))
    (cards_fair (line_alone (has_d this.len) s.storage) beyond_print_area this s)

control_fair : (this : Instruction) (s : State) (moved : Result Carriage ControlFault)
    → IsFair s (after_control this s moved)
control_fair this s (Ok carriage) = carried s _
control_fair this s (Err fault.DChar) = refused s stop.DChar (λ e. cc)
control_fair this s (Err fault.Carriage) = refused s stop.Carriage (λ e. cc)

-- each operation
perform_fair : (operation : Operation) (this : Instruction) (s : State) → IsFair s (perform operation this s)
perform_fair op.Add this s = field_fair this s (sum_at s.storage this.a this.b)
perform_fair op.Subtract this s = field_fair this s (difference_at s.storage this.a this.b)
perform_fair op.ZeroAdd this s = field_fair this s (zero_sum_at s.storage this.a this.b)
perform_fair op.ZeroSubtract this s = field_fair this s (zero_difference_at s.storage this.a this.b)
perform_fair op.Move this s = field_fair this s (move_at s.storage this.a this.b)
perform_fair op.Load this s = field_fair this s (load_at s.storage this.a this.b)
perform_fair op.MoveDigit this s = field_fair this s (digit_moved_at s.storage this.a this.b)
perform_fair op.MoveZone this s = field_fair this s (zone_moved_at s.storage this.a this.b)
perform_fair op.SetWordMark this s = field_fair this s (set_marks_at s.storage this.a this.b)
perform_fair op.ClearWordMark this s = field_fair this s (clear_marks_at s.storage this.a this.b)
perform_fair op.ClearStorage this s = clear_fair this s (clear_down_at s.storage this.b)
perform_fair op.Compare this s = comparison_fair this s (comparison_at s.storage this.a this.b)
perform_fair op.ZeroSuppress this s = field_fair this s (suppress_at s.storage this.a this.b)
perform_fair op.Edit this s = field_fair this s (edit_at s.storage this.a this.b)
perform_fair op.Branch this s = branch_fair this s
perform_fair op.BranchOnCell this s = on_cell_fair (passes this.d) this s
perform_fair op.StoreA this s = store_fair s.a this s
perform_fair op.StoreB this s = store_fair s.b this s
perform_fair op.NoOperation this s = carried s _
perform_fair op.Halt this s = halted s _
perform_fair op.SelectStacker this s = carried s _
perform_fair op.ReadCard this s = work_fair reading this s
perform_fair op.WriteLine this s = write_fair this s
perform_fair op.WriteAndRead this s = work_fair writing_and_reading this s
perform_fair op.PunchCard this s = work_fair punching this s
perform_fair op.ReadAndPunch this s = work_fair reading_and_punching this s
perform_fair op.WriteAndPunch this s = work_fair writing_and_punching this s
perform_fair op.WriteReadAndPunch this s = work_fair all_three this s
perform_fair op.ControlCarriage this s = control_fair this s (controlled s.devices.carriage this.d)

length_fair : (operation : Operation) (len : ℕ) (s : State) → IsFair s (check_length operation len s)
length_fair operation len s =
    either s (is_unfitted_length operation len) _ _ (refused s stop.NotFitted (λ e. cc))
    (either s (has_length operation len) _ _ (perform_fair operation (instruction_of operation len s) s)
    (refused s stop.Length (λ e. cc)))

operation_fair : (found : Option Operation) (char : ℕ) (s : State) → IsFair s (check_operation found char s)
operation_fair None char s = refused s _ (by (is_unfitted char))
  where
    by : (unfitted : Bool) → (if unfitted then stop.NotFitted else stop.OpCode) ≢ stop.Limit
    by true = λ e. cc
    by false = λ e. cc
operation_fair (Some operation) char s = length_fair operation (length_at s.storage operation s.i) s

step_fair : (s : State) → IsFair s (step s)
unfolding step
step_fair s =
    let char = (cell_at s.storage s.i).char in
    either s (begins_at s.storage s.i) _ _ (operation_fair (operation_of char) char s)
    (refused s stop.NoMark (λ e. cc))

-- and what features make of instructions
keeping_fair : (s : State) (d : ℕ) (t : Stepped) → IsFair s t → IsFair s (keeping d t)
keeping_fair s d t fair = by t.stop fair
  where
    by : (found : Option Stop) → IsFair s (record { state = t.state; stop = found })
        → IsFair s (if is_some found then record { state = t.state; stop = found }
        else record { state = keeping_d d t.state; stop = found })
    by None f = carried s _
    by (Some why) f = f

tape_why : (unit : Option TapeUnit) (known : Bool) → tape_stop_by unit known ≢ stop.Limit
tape_why None known = λ e. cc
tape_why (Some unit) true = λ e. cc
tape_why (Some unit) false = λ e. cc

tape_fair : (letters : List ℕ) (this : Instruction) (s : State) → IsFair s (stopped (tape_stop letters this s) s)
tape_fair letters this s =
    refused s (tape_stop letters this s) (tape_why (unit_at s.storage (s.i + 1)) (is_letter this.d letters))

branch_by_fair : (test : Cell → Bool) (d : ℕ) (this : Instruction) (s : State)
    → IsFair s (keeping d (branch_on_cell test this s))
branch_by_fair test d this s = keeping_fair s d (branch_on_cell test this s) (on_cell_fair test this s)

fitted_fair : (made : Fitted) (this : Instruction) (s : State) → IsFair s (perform_fitted made this s)
fitted_fair fitted.OnCell this s = keeping_fair s this.d (step s) (step_fair s)
fitted_fair fitted.OnBits this s = branch_by_fair (shares_bit this.d) this.d this s
fitted_fair fitted.CharacterAgain this s = branch_by_fair (has_char s.chained) s.chained (again this s) s
fitted_fair fitted.CellAgain this s = branch_by_fair (passes s.chained) s.chained (again this s) s
fitted_fair fitted.BitsAgain this s =
    either s s.features.lengths _ _ (branch_by_fair (shares_bit s.chained) s.chained (again this s) s)
    (refused s stop.Length (λ e. cc))
fitted_fair fitted.StoreA this s = store_fair s.a this s
fitted_fair fitted.StoreB this s = store_fair s.b this s
fitted_fair fitted.StoreSecond this s = second_fair this s
fitted_fair fitted.Halt this s = halted s _
fitted_fair fitted.Feed this s = carried s _
fitted_fair fitted.Multiply this s = field_fair this s (product_at s.storage this.a this.b)
fitted_fair fitted.Divide this s = field_fair this s (quotient_at s.storage this.a this.b)
fitted_fair fitted.MoveRecord this s = field_fair this s (record_at s.storage this.a this.b)
fitted_fair fitted.ModifyAddress this s = field_fair this s (address_sum_at s.storage this.a this.b)
fitted_fair fitted.MoveTape this s = tape_fair transfer_letters this s
fitted_fair fitted.LoadTape this s = tape_fair transfer_letters this s
fitted_fair fitted.ControlTape this s = tape_fair control_letters this s
fitted_fair fitted.NoLength this s = refused s stop.Length (λ e. cc)

as_fair : (found : Option Fitted) (s : State) → IsFair s (step_as found s)
as_fair None s = step_fair s
as_fair (Some made) s = fitted_fair made (fitted_instruction s) s

pub fitted_step_fair : (s : State) → IsFair s (fitted_step s)
unfolding fitted_step
fitted_step_fair s = as_fair (fitted_at s) s

-- what such a step comes to, by its parts
pub step_unchanged : (s new : State) (found : Option Stop) → found ≡ (fitted_step s).stop → new ≡ (fitted_step s).state
    → IfSome found (λ why. why ≢ stop.Halt → new ≡ s)
step_unchanged s new found is_stop is_state =
    rw (is_stop, is_state) (fitted_step_fair s).unchanged

pub step_limit : (s : State) (found : Option Stop) → found ≡ (fitted_step s).stop → found ≢ Some stop.Limit
step_limit s found is_stop = λ e. (fitted_step_fair s).limit (sym is_stop ∙ e)
