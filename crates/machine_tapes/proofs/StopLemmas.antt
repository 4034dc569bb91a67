-- A step that stops as TAPE leaves the machine as it was.
use Rattle.std.proofs.Common.{◌≡◌, ℕ, ◌==◌, ◌&&◌, not, Bool, true, false, Option, None, Some, Result, Ok, Err}
use Rattle.std.proofs.Common.{refl, sym, ◌∙◌, ap}
use Rattle.std.specs.Prelude.{if◌then◌else◌, is_some}
use Rattle.std.proofs.lemmas.Bool.{false≢true}
use Rattle.bcd_1401.specs.declared.cell.Cell.{Cell}
use Rattle.core_1401.specs.Storage.{is_in_core, cell_at}
use Rattle.devices_1401.specs.Carriage.{Carriage}
use Rattle.devices_1401.specs.declared.fault.ControlFault.{ControlFault}
use Rattle.fields_1401.specs.declared.done.Done.{Done}
use Rattle.fields_1401.specs.declared.done.FieldStop.{FieldStop}
use Rattle.fields_1401.specs.Load.{has_places}
use Rattle.fields_1401.specs.Outcome.{Outcome}
use Rattle.machine_tables.specs.Operation.{operation_of, is_unfitted_length, has_length}
use Rattle.machine_tables.specs.declared.fitted.Fitted.{Fitted}
use Rattle.machine_tables.specs.declared.fitted.Fitted.TheVariants as fitted
use Rattle.machine_tables.specs.declared.operation.Operation.{Operation}
use Rattle.machine_tables.specs.declared.operation.Operation.TheVariants as op
use Rattle.machine_tables.specs.declared.stop.Stop.{Stop}
use Rattle.machine_tables.specs.declared.stop.Stop.TheVariants.{Tape}
use Rattle.cpu_1401.specs.Branch.{after_branch, branch_on_cell, has_char, passes}
use Rattle.cpu_1401.specs.CardsAndPrinter.{after_cards, after_control, after_write, after_work, all_three, asks}
use Rattle.cpu_1401.specs.CardsAndPrinter.{beyond_last, beyond_print_area, first_io_stop, has_d, line_alone, lozenge}
use Rattle.cpu_1401.specs.CardsAndPrinter.{punching, reading, reading_and_punching, unless_hindered}
use Rattle.cpu_1401.specs.CardsAndPrinter.{writing_and_punching, writing_and_reading}
use Rattle.cpu_1401.specs.Chaining.{again, keeping, keeping_d, shares_bit}
use Rattle.cpu_1401.specs.FieldStep.{after_field, after_comparison, after_clear}
use Rattle.cpu_1401.specs.Fitting.{after_second, fitted_at, fitted_instruction, fitted_step, perform_fitted, step_as}
use Rattle.cpu_1401.specs.Instruction.{begins_at, instruction_of, length_at}
use Rattle.cpu_1401.specs.RegisterStep.{after_store}
use Rattle.cpu_1401.specs.State.{State}
use Rattle.cpu_1401.specs.Step.{check_length, check_operation, perform, step}
use Rattle.cpu_1401.specs.Stepped.{Stepped}
use Rattle.cpu_1401.specs.declared.instruction.Instruction.{Instruction}
use Rattle.cpu_1401.specs.declared.io_request.CardWork.{CardWork}
use Rattle.cpu_1401.specs.declared.io_request.IoRequest.{IoRequest}

-- a step that stopped as TAPE left this machine
abbrev Stays : Stepped → State → Type 0
Stays t s = t.stop ≡ Some Tape → t.state ≡ s

either : (s : State) (test : Bool) (x y : Stepped) → Stays x s → Stays y s → Stays (if test then x else y) s
either s true x y ex ey = ex
either s false x y ex ey = ey

field_stays : (this : Instruction) (s : State) (outcome : Outcome) → Stays (after_field this s outcome) s
field_stays this s (Ok done) e = cc
field_stays this s (Err why) e = refl

comparison_stays : (this : Instruction) (s : State) (outcome : Result Done FieldStop)
    → Stays (after_comparison this s outcome) s
comparison_stays this s (Ok done) e = cc
comparison_stays this s (Err why) e = refl

clear_stays : (this : Instruction) (s : State) (outcome : Outcome) → Stays (after_clear this s outcome) s
clear_stays this s (Ok done) = either s (this.len == 7) _ _ (λ e. cc) (λ e. cc)
clear_stays this s (Err why) = λ e. refl

store_stays : (address : ℕ) (this : Instruction) (s : State) → Stays (after_store address this s) s
store_stays address this s = either s (has_places s.storage this.a 3) _ _ (λ e. cc) (λ e. refl)

on_cell_stays : (test : Cell → Bool) (this : Instruction) (s : State) → Stays (branch_on_cell test this s) s
on_cell_stays test this s = either s (is_in_core s.storage this.b) _ _ (λ e. cc) (λ e. refl)

branch_stays : (this : Instruction) (s : State) → Stays (after_branch this s) s
branch_stays this s =
    either s (this.len == 4) _ _ (λ e. cc)
    (either s (this.len == 5) _ _ (λ e. cc) (on_cell_stays (has_char this.d) this s))

-- cards and lines
unless_stays : (why : Option Stop) (s after : State) → Stays (unless_hindered why s after) s
unless_stays (Some why) s after e = refl
unless_stays None s after e = cc

cards_stays : (request : IoRequest) (b : ℕ) (this : Instruction) (s : State) → Stays (after_cards request b this s) s
cards_stays request b this s = unless_stays (first_io_stop request s.devices) s _

work_stays : (work : CardWork) (this : Instruction) (s : State) → Stays (after_work work this s) s
work_stays work this s = cards_stays (asks work s.storage) (beyond_last work) this s

write_stays : (this : Instruction) (s : State) → Stays (after_write this s) s
write_stays this s =
    either s (has_d this.len && not (this.d == lozenge)) _ _ (λ e. refl)
    (cards_stays (line_alone (has_d this.len) s.storage) beyond_print_area this s)

control_stays : (this : Instruction) (s : State) (moved : Result Carriage ControlFault)
    → Stays (after_control this s moved) s
control_stays this s (Ok carriage) e = cc
control_stays this s (Err why) e = refl

-- each operation
perform_stays : (operation : Operation) (this : Instruction) (s : State) → Stays (perform operation this s) s
perform_stays op.Add this s = field_stays this s _
perform_stays op.Subtract this s = field_stays this s _
perform_stays op.ZeroAdd this s = field_stays this s _
perform_stays op.ZeroSubtract this s = field_stays this s _
perform_stays op.Move this s = field_stays this s _
perform_stays op.Load this s = field_stays this s _
perform_stays op.MoveDigit this s = field_stays this s _
perform_stays op.MoveZone this s = field_stays this s _
perform_stays op.SetWordMark this s = field_stays this s _
perform_stays op.ClearWordMark this s = field_stays this s _
perform_stays op.ClearStorage this s = clear_stays this s _
perform_stays op.Compare this s = comparison_stays this s _
perform_stays op.ZeroSuppress this s = field_stays this s _
perform_stays op.Edit this s = field_stays this s _
perform_stays op.Branch this s = branch_stays this s
perform_stays op.BranchOnCell this s = on_cell_stays (passes this.d) this s
perform_stays op.StoreA this s = store_stays s.a this s
perform_stays op.StoreB this s = store_stays s.b this s
perform_stays op.NoOperation this s = λ e. cc
perform_stays op.Halt this s = λ e. cc
perform_stays op.SelectStacker this s = λ e. cc
perform_stays op.ReadCard this s = work_stays reading this s
perform_stays op.WriteLine this s = write_stays this s
perform_stays op.WriteAndRead this s = work_stays writing_and_reading this s
perform_stays op.PunchCard this s = work_stays punching this s
perform_stays op.ReadAndPunch this s = work_stays reading_and_punching this s
perform_stays op.WriteAndPunch this s = work_stays writing_and_punching this s
perform_stays op.WriteReadAndPunch this s = work_stays all_three this s
perform_stays op.ControlCarriage this s = control_stays this s _

length_stays : (operation : Operation) (len : ℕ) (s : State) → Stays (check_length operation len s) s
length_stays operation len s =
    either s (is_unfitted_length operation len) _ _ (λ e. refl)
    (either s (has_length operation len) _ _ (perform_stays operation (instruction_of operation len s) s) (λ e. refl))

operation_stays : (found : Option Operation) (char : ℕ) (s : State) → Stays (check_operation found char s) s
operation_stays None char s = λ e. refl
operation_stays (Some operation) char s = length_stays operation (length_at s.storage operation s.i) s

step_stays : (s : State) → Stays (step s) s
unfolding step
step_stays s =
    let char = (cell_at s.storage s.i).char in
    either s (begins_at s.storage s.i) _ _ (operation_stays (operation_of char) char s) (λ e. refl)

-- and what features make of instructions
keeping_by : (b : Bool) (d : ℕ) (t : Stepped) (s : State) → is_some t.stop ≡ b → Stays t s
    → Stays (if b then t else record t { state = keeping_d d t.state }) s
keeping_by true d t s is stays = stays
keeping_by false d t s is stays = λ e. absurd (false≢true (sym is ∙ ap (λ (o : Option Stop). is_some o) e))

keeping_stays : (d : ℕ) (t : Stepped) (s : State) → Stays t s → Stays (keeping d t) s
keeping_stays d t s stays = keeping_by (is_some t.stop) d t s refl stays

by_cell_stays : (test : Cell → Bool) (d : ℕ) (this : Instruction) (s : State)
    → Stays (keeping d (branch_on_cell test this s)) s
by_cell_stays test d this s = keeping_stays d (branch_on_cell test this s) s (on_cell_stays test this s)

second_stays : (this : Instruction) (s : State) → Stays (after_second this s) s
second_stays this s = either s (has_places s.storage this.a 3) _ _ (λ e. cc) (λ e. refl)

fitted_stays : (made : Fitted) (this : Instruction) (s : State) → Stays (perform_fitted made this s) s
fitted_stays fitted.OnCell this s = keeping_stays this.d (step s) s (step_stays s)
fitted_stays fitted.OnBits this s = by_cell_stays (shares_bit this.d) this.d this s
fitted_stays fitted.CharacterAgain this s = by_cell_stays (has_char s.chained) s.chained (again this s) s
fitted_stays fitted.CellAgain this s = by_cell_stays (passes s.chained) s.chained (again this s) s
fitted_stays fitted.BitsAgain this s =
    either s s.features.lengths _ _ (by_cell_stays (shares_bit s.chained) s.chained (again this s) s) (λ e. refl)
fitted_stays fitted.StoreA this s = store_stays s.a this s
fitted_stays fitted.StoreB this s = store_stays s.b this s
fitted_stays fitted.StoreSecond this s = second_stays this s
fitted_stays fitted.Halt this s = λ e. cc
fitted_stays fitted.Feed this s = λ e. cc
fitted_stays fitted.Multiply this s = field_stays this s _
fitted_stays fitted.Divide this s = field_stays this s _
fitted_stays fitted.MoveRecord this s = field_stays this s _
fitted_stays fitted.ModifyAddress this s = field_stays this s _
fitted_stays fitted.MoveTape this s = λ e. refl
fitted_stays fitted.LoadTape this s = λ e. refl
fitted_stays fitted.ControlTape this s = λ e. refl
fitted_stays fitted.NoLength this s = λ e. refl

as_stays : (found : Option Fitted) (s : State) → Stays (step_as found s) s
as_stays None s = step_stays s
as_stays (Some made) s = fitted_stays made (fitted_instruction s) s

pub tape_stays : (s : State) → (fitted_step s).stop ≡ Some Tape → (fitted_step s).state ≡ s
unfolding fitted_step
tape_stays s = as_stays (fitted_at s) s
