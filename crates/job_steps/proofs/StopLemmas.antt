-- What the parts of a step stop for.
use Rattle.std.proofs.Common.{◌≡◌, ◌≢◌, ℕ, ◌+◌, ◌-◌, ◌==◌, Bool, true, false, refl, subst, sym, ap, ◌∙◌}
use Rattle.std.proofs.lemmas.Bool.{ne_eqb}
use Rattle.std.specs.Prelude.{slice_index, IfSome, Option, None, Some, Result, Ok, Err, if◌then◌else◌}
use Rattle.std.specs.Option.{option_map}
use Rattle.std.specs.Result.{result_err}
use Rattle.bcd_1401.specs.Graphic.{graphics}
use Rattle.bcd_1401.specs.declared.cell.Cell.{Cell}
use Rattle.core_1401.specs.Storage.{Storage, cell_at, is_in_core}
use Rattle.devices_1401.specs.Carriage.{Carriage, with_movement_of, controlled}
use Rattle.devices_1401.specs.Control.{Control, is_immediate, movement_of}
use Rattle.devices_1401.specs.declared.fault.ControlFault.{ControlFault}
use Rattle.fields_1401.specs.declared.done.Done.{Done}
use Rattle.fields_1401.specs.declared.done.FieldStop.{FieldStop}
use Rattle.fields_1401.specs.declared.done.FieldStop.TheVariants as field
use Rattle.fields_1401.specs.Load.{has_places}
use Rattle.fields_1401.specs.Marks.{clear_down_at, cleared, hundred_of}
use Rattle.fields_1401.specs.Outcome.{Outcome, below_by, registers_of, stop_of}
use Rattle.machine_tables.specs.Operation.{meaning_of, operation_of}
use Rattle.machine_tables.specs.declared.operation.Operation.TheVariants as op
use Rattle.machine_tables.specs.declared.stop.Stop.{Stop}
use Rattle.machine_tables.specs.declared.stop.Stop.TheVariants as stop
use Rattle.cpu_1401.specs.Branch.{after_branch, branch_if, branch_on_cell, branch_to, has_char}
use Rattle.cpu_1401.specs.CardsAndPrinter.{after_control, control_stop, unless_hindered}
use Rattle.cpu_1401.specs.FieldStep.{after_clear, after_comparison, after_field}
use Rattle.cpu_1401.specs.Instruction.{instruction_of}
use Rattle.cpu_1401.specs.RegisterStep.{after_store}
use Rattle.cpu_1401.specs.State.{State}
use Rattle.cpu_1401.specs.Stepped.{step_to, stopped}
use Rattle.cpu_1401.specs.declared.instruction.Instruction.{Instruction}
use Rattle.job_steps.specs.FieldReason.{IsFieldSo, address_of, field_stop}
use Rattle.job_steps.specs.Reason.{IsSoOf, stop_named}
use Rattle.job_steps.specs.Said.{a_of, b_of, performed_stop, said_with}
use Rattle.job_steps.specs.declared.field_reason.Operand.TheVariants as operand
use Rattle.job_steps.specs.declared.field_reason.FieldReason.{FieldReason}
use Rattle.job_steps.specs.declared.reason.Reason.{Reason}
use Rattle.job_steps.specs.declared.reason.Reason.TheVariants as reason

-- a step that is carried out either way
either_stops : (c : Bool) (s t : State) → (if c then step_to s else step_to t).stop ≡ None
either_stops true s t = refl
either_stops false s t = refl

-- an operation on fields
pub field_stops : (this : Instruction) (s : State) (outcome : Outcome)
    → (after_field this s outcome).stop ≡ option_map stop_of (result_err outcome)
field_stops this s (Ok done) = refl
field_stops this s (Err why) = refl

-- a comparison
pub comparison_stops : (this : Instruction) (s : State) (outcome : Result Done FieldStop)
    → (after_comparison this s outcome).stop ≡ option_map stop_of (result_err outcome)
comparison_stops this s (Ok done) = refl
comparison_stops this s (Err why) = refl

-- cards and lines
pub card_stops : (why : Option Stop) (s after : State) → (unless_hindered why s after).stop ≡ why
card_stops None s after = refl
card_stops (Some why) s after = refl

-- storage cleared
pub clear_stops : (this : Instruction) (s : State) (outcome : Outcome)
    → (after_clear this s outcome).stop ≡ option_map stop_of (result_err outcome)
clear_stops this s (Err why) = refl
clear_stops this s (Ok done) = either_stops (this.len == 7) (branch_to this (record s { storage = done.0 }))
    (record s { storage = done.0; i = this.next; a = this.a; b = done.1.b })

-- the carriage controlled
moved_stops : (this : Instruction) (s : State) (immediate : Bool) (carriage : Carriage)
    (movement : Result Control ControlFault)
    → (after_control this s (with_movement_of immediate carriage movement)).stop
    ≡ option_map control_stop (result_err movement)
moved_stops this s immediate carriage (Ok control) = refl
moved_stops this s immediate carriage (Err why) = refl

pub control_stops : (this : Instruction) (s : State) (carriage : Carriage) (d : ℕ)
    → (after_control this s (controlled carriage d)).stop ≡ option_map control_stop (result_err (movement_of d))
unfolding controlled
control_stops this s carriage d = moved_stops this s (is_immediate d) carriage (movement_of d)

-- what is refused, or carried out
refused_stops : (b : Bool) (done s : State) (why : Stop)
    → (if b then step_to done else stopped why s).stop ≡ (if b then None else Some why)
refused_stops true done s why = refl
refused_stops false done s why = refl

-- a branch by a cell stops if that isn't in core
pub cell_branch_stops : (test : Cell → Bool) (this : Instruction) (s : State)
    → (branch_on_cell test this s).stop ≡ (if is_in_core s.storage this.b then None else Some stop.Address)
cell_branch_stops test this s =
    refused_stops (is_in_core s.storage this.b)
    (branch_if (test (cell_at s.storage this.b)) (below_by this.b 1) this s) s stop.Address

-- and so does a branch that has neither four characters nor five
branch_stops : (this : Instruction) (s : State) → this.len ≢ 4 → this.len ≢ 5
    → (after_branch this s).stop ≡ (if is_in_core s.storage this.b then None else Some stop.Address)
branch_stops this s four five =
    rw (ne_eqb this.len 4 four, ne_eqb this.len 5 five) (cell_branch_stops (has_char this.d) this s)

branch_performed : (s : State) (char len : ℕ) → slice_index graphics char ≡ 66 → len ≢ 4 → len ≢ 5
    → performed_stop (operation_of char) len s
    ≡ (if is_in_core s.storage (b_of false len s) then None else Some stop.Address)
branch_performed s char len is four five =
    ap (λ (graphic : ℕ). performed_stop (meaning_of graphic) len s) is
    ∙ branch_stops (instruction_of op.Branch len s) s four five

-- so the reason that names its B address is why it stops
named_of_fields : (why : Option FieldReason)
    → option_map stop_named (option_map reason.Fields why) ≡ option_map stop_of (option_map field_stop why)
named_of_fields None = refl
named_of_fields (Some why) = refl

outside_stops : (b : Bool) (done : Storage × Done)
    → option_map stop_of (let outcome : Outcome = if b then Ok done else Err field.Address in result_err outcome)
    ≡ (if b then None else Some stop.Address)
outside_stops true done = refl
outside_stops false done = refl

pub branch_told : (s : State) (char len b : ℕ) (core : Storage) (why : Option FieldReason) (told : Option Reason)
    → slice_index graphics char ≡ 66 → len ≢ 4 → len ≢ 5 → core ≡ s.storage → b ≡ b_of false len s
    → told ≡ option_map reason.Fields why → option_map field_stop why ≡ result_err (clear_down_at core b)
    → option_map stop_named told ≡ performed_stop (operation_of char) len s
branch_told s char len b core why told is four five e_core e_b e_told e_why =
    let at : ℕ = b_of false len s in
    ap (λ (found : Option Reason). option_map stop_named found) e_told ∙ named_of_fields why
    ∙ ap (λ (found : Option FieldStop). option_map stop_of found) e_why
    ∙ ap (λ (storage : Storage). option_map stop_of (result_err (clear_down_at storage b))) e_core
    ∙ ap (λ (place : ℕ). option_map stop_of (result_err (clear_down_at s.storage place))) e_b
    ∙ outside_stops (is_in_core s.storage at)
    (cleared s.storage at (at + 1 - hundred_of at), registers_of at (below_by (hundred_of at) 1))
    ∙ sym (branch_performed s char len is four five)

-- what a reason says of the operands at these addresses, it says of the instruction with them
pub fields_so : (this : Instruction) (s : State) (core : Storage) (a b : ℕ) (why : Option FieldReason)
    (told : Option Reason) → core ≡ s.storage → a ≡ this.a → b ≡ this.b → told ≡ option_map reason.Fields why
    → IfSome why (IsFieldSo core a b) → IfSome told (IsSoOf this s)
fields_so this s core a b None told e_core e_a e_b e_told so =
    subst (λ (each : Option Reason). IfSome each (IsSoOf this s)) (sym e_told) tt
fields_so this s core a b (Some why) told e_core e_a e_b e_told so =
    subst (λ (each : Option Reason). IfSome each (IsSoOf this s)) (sym e_told)
    (subst (λ (storage : Storage). IsFieldSo storage this.a this.b why) e_core
    (subst (λ (at : ℕ). IsFieldSo core at this.b why) e_a (subst (λ (at : ℕ). IsFieldSo core a at why) e_b so)))

pub said_so : (s : State) (char len graphic : ℕ) (core : Storage) (a b : ℕ) (why : Option FieldReason)
    (told : Option Reason) → slice_index graphics char ≡ graphic → core ≡ s.storage
    → a ≡ (said_with (meaning_of graphic) len s).a → b ≡ (said_with (meaning_of graphic) len s).b
    → told ≡ option_map reason.Fields why → IfSome why (IsFieldSo core a b)
    → IfSome told (IsSoOf (said_with (operation_of char) len s) s)
said_so s char len graphic core a b why told is e_core e_a e_b e_told so =
    subst (λ (each : ℕ). IfSome told (IsSoOf (said_with (meaning_of each) len s) s)) (sym is)
    (fields_so (said_with (meaning_of graphic) len s) s core a b why told e_core e_a e_b e_told so)

-- registers that are stored stop if there aren't three places
store_stops : (register : ℕ) (this : Instruction) (s : State)
    → (after_store register this s).stop ≡ (if has_places s.storage this.a 3 then None else Some stop.Address)
store_stops register this s = refused_stops (has_places s.storage this.a 3) _ s stop.Address

few_places : (b : Bool) → option_map stop_of (let why : Option FieldStop = if b then None else Some field.Address in why)
    ≡ (if b then None else Some stop.Address)
few_places true = refl
few_places false = refl

pub store_told : (register : ℕ) (this : Instruction) (s : State) (core : Storage) (a b : ℕ) (why : Option FieldReason)
    (told : Option Reason) → core ≡ s.storage → a ≡ this.a → told ≡ option_map reason.Fields why
    → option_map field_stop why ≡ (if has_places core (address_of operand.A a b) 3 then None else Some field.Address)
    → option_map stop_named told ≡ (after_store register this s).stop
store_told register this s core a b why told e_core e_a e_told e_why =
    ap (λ (found : Option Reason). option_map stop_named found) e_told ∙ named_of_fields why
    ∙ ap (λ (found : Option FieldStop). option_map stop_of found) e_why
    ∙ few_places (has_places core a 3)
    ∙ ap (λ (storage : Storage). let why : Option Stop = if has_places storage a 3 then None else Some stop.Address in why) e_core
    ∙ ap (λ (at : ℕ). let why : Option Stop = if has_places s.storage at 3 then None else Some stop.Address in why) e_a
    ∙ sym (store_stops register this s)

pub store_performed : (s : State) (char len : ℕ) (core : Storage) (a b : ℕ) (why : Option FieldReason)
    (told : Option Reason) → slice_index graphics char ≡ 81 → core ≡ s.storage → a ≡ a_of len s
    → told ≡ option_map reason.Fields why
    → option_map field_stop why ≡ (if has_places core (address_of operand.A a b) 3 then None else Some field.Address)
    → option_map stop_named told ≡ performed_stop (operation_of char) len s
store_performed s char len core a b why told is e_core e_a e_told e_why =
    store_told s.a (instruction_of op.StoreA len s) s core a b why told e_core e_a e_told e_why
    ∙ ap (λ (graphic : ℕ). performed_stop (meaning_of graphic) len s) (sym is)

-- an operation on fields that is done at both addresses stops for what it is refused for
pub fields_told : (this : Instruction) (s : State) (done_at : Storage → ℕ → ℕ → Outcome) (core : Storage) (a b : ℕ)
    (why : Option FieldReason) (told : Option Reason) → core ≡ s.storage → a ≡ this.a → b ≡ this.b
    → told ≡ option_map reason.Fields why → option_map field_stop why ≡ result_err (done_at core a b)
    → option_map stop_named told ≡ (after_field this s (done_at s.storage this.a this.b)).stop
fields_told this s done_at core a b why told e_core e_a e_b e_told e_why =
    ap (λ (found : Option Reason). option_map stop_named found) e_told ∙ named_of_fields why
    ∙ ap (λ (found : Option FieldStop). option_map stop_of found) e_why
    ∙ ap (λ (storage : Storage). option_map stop_of (result_err (done_at storage a b))) e_core
    ∙ ap (λ (at : ℕ). option_map stop_of (result_err (done_at s.storage at b))) e_a
    ∙ ap (λ (at : ℕ). option_map stop_of (result_err (done_at s.storage this.a at))) e_b
    ∙ sym (field_stops this s (done_at s.storage this.a this.b))

pub fields_performed : (s : State) (char len graphic : ℕ) (done_at : Storage → ℕ → ℕ → Outcome) (core : Storage)
    (a b : ℕ)
    (why : Option FieldReason) (told : Option Reason) → slice_index graphics char ≡ graphic → core ≡ s.storage
    → a ≡ (said_with (meaning_of graphic) len s).a → b ≡ (said_with (meaning_of graphic) len s).b
    → told ≡ option_map reason.Fields why → option_map field_stop why ≡ result_err (done_at core a b)
    → performed_stop (meaning_of graphic) len s
    ≡ (after_field (said_with (meaning_of graphic) len s) s
    (done_at s.storage (said_with (meaning_of graphic) len s).a (said_with (meaning_of graphic) len s).b)).stop
    → option_map stop_named told ≡ performed_stop (operation_of char) len s
fields_performed s char len graphic done_at core a b why told is e_core e_a e_b e_told e_why same =
    fields_told (said_with (meaning_of graphic) len s) s done_at core a b why told e_core e_a e_b e_told e_why ∙ sym
    same
    ∙ ap (λ (at : ℕ). performed_stop (meaning_of at) len s) (sym is)
