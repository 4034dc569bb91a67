-- A step changes nothing of what the machine is fitted with.
use Rattle.std.proofs.Common.{◌≡◌, ℕ, ◌==◌, ◌&&◌, not, Bool, true, false, List, Option, None, Some, Result, Ok, Err}
use Rattle.std.proofs.Common.{refl, ◌∙◌}
use Rattle.std.specs.Prelude.{if◌then◌else◌, is_some, nat_le, slice_get}
use Rattle.bcd_1401.specs.declared.cell.Cell.{Cell}
use Rattle.core_1401.specs.Storage.{is_in_core, cell_at}
use Rattle.devices_1401.specs.Carriage.{Carriage}
use Rattle.devices_1401.specs.declared.card.Card.{Card}
use Rattle.devices_1401.specs.declared.fault.ControlFault.{ControlFault}
use Rattle.fields_1401.specs.declared.done.Done.{Done}
use Rattle.fields_1401.specs.declared.done.FieldStop.{FieldStop}
use Rattle.fields_1401.specs.Load.{has_places}
use Rattle.fields_1401.specs.Outcome.{Outcome, below_by}
use Rattle.machine_tables.specs.Operation.{operation_of, is_unfitted_length, has_length}
use Rattle.machine_tables.specs.declared.operation.Operation.{Operation}
use Rattle.machine_tables.specs.declared.operation.Operation.TheVariants as op
use Rattle.machine_tables.specs.declared.features.Features.{Features}
use Rattle.machine_tables.specs.declared.stop.Stop.{Stop}
use Rattle.cpu_1401.specs.Branch.{after_branch, branch_if, branch_on, branch_on_cell, condition_of, go_on, has_char}
use Rattle.cpu_1401.specs.Branch.{is_so, passes, after_look}
use Rattle.cpu_1401.specs.CardsAndPrinter.{after_cards, after_control, after_write, after_work, all_three, asks}
use Rattle.cpu_1401.specs.CardsAndPrinter.{beyond_last, beyond_print_area, has_d, first_io_stop, line_alone, lozenge}
use Rattle.cpu_1401.specs.CardsAndPrinter.{move_on, punching, reading}
use Rattle.cpu_1401.specs.CardsAndPrinter.{reading_and_punching, unless_hindered, with_all, with_card, with_line}
use Rattle.cpu_1401.specs.CardsAndPrinter.{with_punch}
use Rattle.cpu_1401.specs.CardsAndPrinter.{with_read, writing_and_punching, writing_and_reading}
use Rattle.cpu_1401.specs.Chaining.{again, keeping, shares_bit}
use Rattle.cpu_1401.specs.FieldStep.{after_field, after_comparison, after_clear}
use Rattle.cpu_1401.specs.Fitting.{after_second, fitted_at, fitted_instruction, fitted_step, perform_fitted, step_as}
use Rattle.cpu_1401.specs.Instruction.{begins_at, instruction_of, length_at}
use Rattle.cpu_1401.specs.RegisterStep.{after_store}
use Rattle.cpu_1401.specs.State.{State}
use Rattle.cpu_1401.specs.Step.{check_length, check_operation, perform, step}
use Rattle.cpu_1401.specs.Stepped.{Stepped}
use Rattle.cpu_1401.specs.declared.condition.Condition.{Condition}
use Rattle.cpu_1401.specs.declared.condition.Condition.TheVariants as condition
use Rattle.machine_tables.specs.declared.fitted.Fitted.{Fitted}
use Rattle.machine_tables.specs.declared.fitted.Fitted.TheVariants as fitted
use Rattle.cpu_1401.specs.declared.instruction.Instruction.{Instruction}
use Rattle.cpu_1401.specs.declared.io_request.CardWork.{CardWork}
use Rattle.cpu_1401.specs.declared.io_request.IoRequest.{IoRequest}

either : (features : Features) (test : Bool) (x y : Stepped) → x.state.features ≡ features
    → y.state.features ≡ features → (if test then x else y).state.features ≡ features
either features true x y ex ey = ex
either features false x y ex ey = ey

field_features : (this : Instruction) (s : State) (outcome : Outcome)
    → (after_field this s outcome).state.features ≡ s.features
field_features this s (Ok done) = refl
field_features this s (Err why) = refl

result_features : (keeps : Bool) (done : Done) (s : State)
    → (if keeps then s else record s { unequal = done.unequal; low = done.low; high = done.high }).features ≡ s.features
result_features true done s = refl
result_features false done s = refl

comparison_features : (this : Instruction) (s : State) (outcome : Result Done FieldStop)
    → (after_comparison this s outcome).state.features ≡ s.features
comparison_features this s (Ok done) =
    result_features ((this.len == 1) && not done.unequal) done (record s { i = this.next; a = done.a; b = done.b })
comparison_features this s (Err why) = refl

clear_features : (this : Instruction) (s : State) (outcome : Outcome)
    → (after_clear this s outcome).state.features ≡ s.features
clear_features this s (Ok done) = either s.features (this.len == 7) _ _ refl refl
clear_features this s (Err why) = refl

store_features : (address : ℕ) (this : Instruction) (s : State)
    → (after_store address this s).state.features ≡ s.features
store_features address this s = either s.features (has_places s.storage this.a 3) _ _ refl refl

go_on_features : (branches : Bool) (this : Instruction) (s : State) → (go_on branches this s).features ≡ s.features
go_on_features true this s = refl
go_on_features false this s = refl

branch_if_features : (test : Bool) (b : ℕ) (this : Instruction) (s : State)
    → (branch_if test b this s).features ≡ s.features
branch_if_features true b this s = refl
branch_if_features false b this s = refl

on_cell_features : (test : Cell → Bool) (this : Instruction) (s : State)
    → (branch_on_cell test this s).state.features ≡ s.features
on_cell_features test this s =
    either s.features (is_in_core s.storage this.b) _ _
    (branch_if_features (test (cell_at s.storage this.b)) (below_by this.b 1) this s) refl

look_features : (s : State) (c : Condition) → (after_look s c).features ≡ s.features
look_features s condition.Unequal = refl
look_features s condition.Equal = refl
look_features s condition.Low = refl
look_features s condition.High = refl
look_features s condition.Overflow = refl
look_features s condition.LastCard = refl
look_features s (condition.SwitchOn name) = refl
look_features s condition.ChannelNine = refl
look_features s condition.ChannelTwelve = refl

branch_on_features : (looked_for : Option Condition) (this : Instruction) (s : State)
    → (branch_on looked_for this s).features ≡ s.features
branch_on_features None this s = refl
branch_on_features (Some c) this s =
    branch_if_features (is_so s c) this.b this (after_look s c) ∙ look_features s c

branch_features : (this : Instruction) (s : State) → (after_branch this s).state.features ≡ s.features
branch_features this s =
    either s.features (this.len == 4) _ _ refl
    (either s.features (this.len == 5) _ _ (branch_on_features (condition_of this.d) this s)
    (on_cell_features (has_char this.d) this s))

-- cards and lines
line_features : (line : Option (List ℕ)) (s : State) → (with_line line s).features ≡ s.features
line_features None s = refl
line_features (Some text) s = refl

card_features : (card : Option Card) (s : State) → (with_card card s).features ≡ s.features
card_features None s = refl
card_features (Some card) s = refl

read_features : (reads : Bool) (s : State) → (with_read reads s).features ≡ s.features
read_features false s = refl
read_features true s = card_features (slice_get s.devices.hopper 0) s

punch_features : (punches : Bool) (s : State) → (with_punch punches s).features ≡ s.features
punch_features false s = refl
punch_features true s = refl

all_features : (request : IoRequest) (s : State) → (with_all request s).features ≡ s.features
all_features request s =
    let printed : State = with_line request.line s in
    punch_features request.punches (with_read request.reads printed)
    ∙ read_features request.reads printed
    ∙ line_features request.line s

move_on_features : (branches : Bool) (b : ℕ) (this : Instruction) (s : State)
    → (move_on branches b this s).features ≡ s.features
move_on_features true b this s = refl
move_on_features false b this s = refl

unless_features : (why : Option Stop) (s after : State) → after.features ≡ s.features
    → (unless_hindered why s after).state.features ≡ s.features
unless_features (Some why) s after e = refl
unless_features None s after e = e

cards_features : (request : IoRequest) (b : ℕ) (this : Instruction) (s : State)
    → (after_cards request b this s).state.features ≡ s.features
cards_features request b this s =
    unless_features (first_io_stop request s.devices) s _
    (move_on_features (nat_le 4 this.len) b this (with_all request s) ∙ all_features request s)

work_features : (work : CardWork) (this : Instruction) (s : State) → (after_work work this s).state.features ≡ s.features
work_features work this s = cards_features (asks work s.storage) (beyond_last work) this s

after_write_features : (this : Instruction) (s : State) → (after_write this s).state.features ≡ s.features
after_write_features this s =
    either s.features (has_d this.len && not (this.d == lozenge)) _ _ refl
    (cards_features (line_alone (has_d this.len) s.storage) beyond_print_area this s)

control_features : (this : Instruction) (s : State) (moved : Result Carriage ControlFault)
    → (after_control this s moved).state.features ≡ s.features
control_features this s (Ok carriage) =
    go_on_features (this.len == 5) this (record s { devices = record s.devices { carriage = carriage } })
control_features this s (Err why) = refl

-- each operation
pub perform_features : (operation : Operation) (this : Instruction) (s : State)
    → (perform operation this s).state.features ≡ s.features
perform_features op.Add this s = field_features this s _
perform_features op.Subtract this s = field_features this s _
perform_features op.ZeroAdd this s = field_features this s _
perform_features op.ZeroSubtract this s = field_features this s _
perform_features op.Move this s = field_features this s _
perform_features op.Load this s = field_features this s _
perform_features op.MoveDigit this s = field_features this s _
perform_features op.MoveZone this s = field_features this s _
perform_features op.SetWordMark this s = field_features this s _
perform_features op.ClearWordMark this s = field_features this s _
perform_features op.ClearStorage this s = clear_features this s _
perform_features op.Compare this s = comparison_features this s _
perform_features op.ZeroSuppress this s = field_features this s _
perform_features op.Edit this s = field_features this s _
perform_features op.Branch this s = branch_features this s
perform_features op.BranchOnCell this s = on_cell_features (passes this.d) this s
perform_features op.StoreA this s = store_features s.a this s
perform_features op.StoreB this s = store_features s.b this s
perform_features op.NoOperation this s = refl
perform_features op.Halt this s = go_on_features (this.len == 4) this s
perform_features op.SelectStacker this s = go_on_features (this.len == 5) this s
perform_features op.ReadCard this s = work_features reading this s
perform_features op.WriteLine this s = after_write_features this s
perform_features op.WriteAndRead this s = work_features writing_and_reading this s
perform_features op.PunchCard this s = work_features punching this s
perform_features op.ReadAndPunch this s = work_features reading_and_punching this s
perform_features op.WriteAndPunch this s = work_features writing_and_punching this s
perform_features op.WriteReadAndPunch this s = work_features all_three this s
perform_features op.ControlCarriage this s = control_features this s _

length_features : (operation : Operation) (len : ℕ) (s : State)
    → (check_length operation len s).state.features ≡ s.features
length_features operation len s =
    either s.features (is_unfitted_length operation len) _ _ refl
    (either s.features (has_length operation len) _ _ (perform_features operation (instruction_of operation len s) s) refl)

operation_features : (found : Option Operation) (char : ℕ) (s : State)
    → (check_operation found char s).state.features ≡ s.features
operation_features None char s = refl
operation_features (Some operation) char s = length_features operation (length_at s.storage operation s.i) s

pub step_features : (s : State) → (step s).state.features ≡ s.features
unfolding step
step_features s =
    let char = (cell_at s.storage s.i).char in
    either s.features (begins_at s.storage s.i) _ _ (operation_features (operation_of char) char s) refl

-- and what features make of instructions
keeping_features : (features : Features) (d : ℕ) (t : Stepped) → t.state.features ≡ features
    → (keeping d t).state.features ≡ features
keeping_features features d t e = either features (is_some t.stop) _ _ e e

branch_by_features : (test : Cell → Bool) (d : ℕ) (this : Instruction) (s : State)
    → (keeping d (branch_on_cell test this s)).state.features ≡ s.features
branch_by_features test d this s =
    keeping_features s.features d (branch_on_cell test this s) (on_cell_features test this s)

second_features : (this : Instruction) (s : State) → (after_second this s).state.features ≡ s.features
second_features this s = either s.features (has_places s.storage this.a 3) _ _ refl refl

fitted_features : (made : Fitted) (this : Instruction) (s : State)
    → (perform_fitted made this s).state.features ≡ s.features
fitted_features fitted.OnCell this s = keeping_features s.features this.d (step s) (step_features s)
fitted_features fitted.OnBits this s = branch_by_features (shares_bit this.d) this.d this s
fitted_features fitted.CharacterAgain this s = branch_by_features (has_char s.chained) s.chained (again this s) s
fitted_features fitted.CellAgain this s = branch_by_features (passes s.chained) s.chained (again this s) s
fitted_features fitted.BitsAgain this s =
    either s.features s.features.lengths _ _ (branch_by_features (shares_bit s.chained) s.chained (again this s) s) refl
fitted_features fitted.StoreA this s = store_features s.a this s
fitted_features fitted.StoreB this s = store_features s.b this s
fitted_features fitted.StoreSecond this s = second_features this s
fitted_features fitted.Halt this s = refl
fitted_features fitted.Feed this s = refl
fitted_features fitted.Multiply this s = field_features this s _
fitted_features fitted.Divide this s = field_features this s _
fitted_features fitted.MoveRecord this s = field_features this s _
fitted_features fitted.ModifyAddress this s = field_features this s _
fitted_features fitted.MoveTape this s = refl
fitted_features fitted.LoadTape this s = refl
fitted_features fitted.ControlTape this s = refl
fitted_features fitted.NoLength this s = refl

as_features : (found : Option Fitted) (s : State) → (step_as found s).state.features ≡ s.features
as_features None s = step_features s
as_features (Some made) s = fitted_features made (fitted_instruction s) s

pub fitted_step_features : (s : State) → (fitted_step s).state.features ≡ s.features
unfolding fitted_step
fitted_step_features s = as_features (fitted_at s) s
