-- The machine that a halt leaves, and the address that is reported of it.
use Rattle.std.proofs.Common.{◌≡◌, ◌≤◌, ◌<◌, ◌⊎◌, inl, inr, ℕ, ◌+◌, ◌-◌, ◌%◌, ◌==◌, ◌&&◌, not, Bool, true, false}
use Rattle.std.proofs.Common.{List, length, drop, refl, sym, ◌∙◌, ap, subst, arith}
use Rattle.std.proofs.lemmas.Bool.{and_from, and_parts, eq-eqb, eqb-true, ltb-true}
use Rattle.std.proofs.lemmas.List.{get_or-drop, length-drop}
use Rattle.std.proofs.lemmas.List.Sums.{fails_before_first, prefix_len-le-length}
use Rattle.std.proofs.lemmas.Option.{none-some}
use Rattle.std.specs.Prelude.{is_some, unwrap_or, Option, None, Some, Result, Ok, Err, if◌then◌else◌}
use Rattle.std.specs.Prelude.{nat_le, slice_index}
use Rattle.std.specs.List.{position_or_len}
use Rattle.bcd_1401.specs.declared.cell.Cell.{Cell}
use Rattle.bcd_1401.specs.Graphic.{graphics}
use Rattle.core_1401.specs.Address.{addresses, effective_at}
use Rattle.core_1401.specs.Field.{field_len_of}
use Rattle.core_1401.specs.Storage.{Storage, blank, cell_at, is_in_core}
use Rattle.devices_1401.specs.Carriage.{Carriage, controlled}
use Rattle.devices_1401.specs.Devices.{is_full}
use Rattle.devices_1401.specs.declared.fault.ControlFault.{ControlFault}
use Rattle.devices_1401.specs.declared.fault.ControlFault.TheVariants as fault
use Rattle.fields_1401.specs.declared.done.Done.{Done}
use Rattle.fields_1401.specs.declared.done.FieldStop.{FieldStop}
use Rattle.fields_1401.specs.declared.done.FieldStop.TheVariants as field
use Rattle.fields_1401.specs.Arithmetic.{sum_at, difference_at, zero_sum_at, zero_difference_at}
use Rattle.fields_1401.specs.Compare.{comparison_at}
use Rattle.fields_1401.specs.Edit.{edit_at}
use Rattle.fields_1401.specs.Load.{has_places, load_at}
use Rattle.fields_1401.specs.Marks.{set_marks_at, clear_marks_at, clear_down_at}
use Rattle.fields_1401.specs.Move.{move_at}
use Rattle.fields_1401.specs.Outcome.{Outcome, below_by, stop_of}
use Rattle.fields_1401.specs.Parts.{digit_moved_at, zone_moved_at}
use Rattle.fields_1401.specs.Suppress.{suppress_at}
use Rattle.fields_1401.specs.AddressSums.{address_sum_at}
use Rattle.fields_1401.specs.Products.{product_at}
use Rattle.fields_1401.specs.Quotients.{quotient_at}
use Rattle.fields_1401.specs.Records.{record_at}
use Rattle.fields_1401.proofs.ReadLemmas.{field_len_is}
use Rattle.machine_tables.specs.Operation.{has_length, is_unfitted, is_unfitted_length, operation_of}
use Rattle.machine_tables.specs.declared.fitted.Fitted.{Fitted}
use Rattle.machine_tables.specs.declared.fitted.Fitted.TheVariants as fitted
use Rattle.machine_tables.specs.declared.operation.Operation.{Operation}
use Rattle.machine_tables.specs.declared.operation.Operation.TheVariants as op
use Rattle.machine_tables.specs.declared.stop.Stop.{Stop}
use Rattle.machine_tables.specs.declared.stop.Stop.TheVariants as stop
use Rattle.cpu_1401.specs.Branch.{after_branch, branch_on_cell, go_on, has_char, passes}
use Rattle.cpu_1401.specs.CardsAndPrinter.{after_cards, after_control, after_write, all_three, asks, beyond_last}
use Rattle.cpu_1401.specs.CardsAndPrinter.{beyond_print_area, has_d, line_alone}
use Rattle.cpu_1401.specs.CardsAndPrinter.{lozenge}
use Rattle.cpu_1401.specs.CardsAndPrinter.{first_io_stop, move_on, punching, reading, reading_and_punching, with_all}
use Rattle.cpu_1401.specs.CardsAndPrinter.{writing_and_punching, writing_and_reading}
use Rattle.cpu_1401.specs.Chaining.{again, keeping, keeping_d, shares_bit}
use Rattle.cpu_1401.specs.Fetched.{cells_at}
use Rattle.cpu_1401.specs.FieldStep.{after_clear, after_comparison, after_field}
use Rattle.cpu_1401.specs.Fitting.{fitted_at, fitted_instruction, fitted_step, perform_fitted, step_as}
use Rattle.cpu_1401.specs.Instruction.{begins_at, instruction_of, length_at}
use Rattle.cpu_1401.specs.RegisterStep.{after_store}
use Rattle.cpu_1401.specs.State.{State}
use Rattle.cpu_1401.specs.Step.{check_length, check_operation, perform, step}
use Rattle.cpu_1401.specs.Stepped.{Stepped, stopped}
use Rattle.cpu_1401.specs.Tape.{control_letters, is_letter, tape_stop_by, transfer_letters, unit_at}
use Rattle.cpu_1401.specs.declared.instruction.Instruction.{Instruction}
use Rattle.cpu_1401.specs.declared.io_request.IoRequest.{IoRequest}
use Rattle.machine_tables.specs.declared.tape_unit.TapeUnit.{TapeUnit}
use Rattle.cpu_1401.proofs.FittedLemmas.{meaning_is}
use Rattle.job_steps.specs.Halting.{after_halt, halted_at, has_branched, is_halt_to, is_taken_for_another}
use Rattle.job_steps.specs.Halting.{length_before, told_of_halt}
use Rattle.job_steps.specs.Said.{char_of}
use Rattle.job_steps.proofs.ClaimedLemmas.{halt_claimed, halt_operation, kept_stops, length_is}
use Rattle.job_steps.proofs.StopLemmas.{card_stops}

-- whether a step ended with a halt
abbrev is_halt : Option Stop → Bool
is_halt None = false
is_halt (Some stop.Limit) = false
is_halt (Some stop.Halt) = true
is_halt (Some stop.Reader) = false
is_halt (Some stop.Forms) = false
is_halt (Some stop.Stacker) = false
is_halt (Some stop.NoMark) = false
is_halt (Some stop.OpCode) = false
is_halt (Some stop.Length) = false
is_halt (Some stop.Address) = false
is_halt (Some stop.Overlap) = false
is_halt (Some stop.Carriage) = false
is_halt (Some stop.NotFitted) = false
is_halt (Some stop.DChar) = false
is_halt (Some stop.Tape) = false

record NoHalt (why : Option Stop) : Type 0 where
  no : is_halt why ≡ false

record GoesOn (t : Stepped) : Type 0 where
  no : is_halt t.stop ≡ false

either : (c : Bool) (t u : Stepped) → GoesOn t → GoesOn u → GoesOn (if c then t else u)
either true t u p q = p
either false t u p q = q

either_stop : (c : Bool) (x y : Option Stop) → NoHalt x → NoHalt y → NoHalt (if c then x else y)
either_stop true x y p q = p
either_stop false x y p q = q

-- no operation but a halt ends with one
no_halt : (why : FieldStop) → is_halt (Some (stop_of why)) ≡ false
no_halt field.Address = refl
no_halt field.Overlap = refl

field_goes : (this : Instruction) (s : State) (outcome : Outcome) → GoesOn (after_field this s outcome)
field_goes this s (Ok done) = record { no = refl }
field_goes this s (Err why) = record { no = no_halt why }

comparison_goes : (this : Instruction) (s : State) (outcome : Result Done FieldStop)
    → GoesOn (after_comparison this s outcome)
comparison_goes this s (Ok done) = record { no = refl }
comparison_goes this s (Err why) = record { no = no_halt why }

clear_goes : (this : Instruction) (s : State) (outcome : Outcome) → GoesOn (after_clear this s outcome)
clear_goes this s (Ok done) = either (this.len == 7) _ _ (record { no = refl }) (record { no = refl })
clear_goes this s (Err why) = record { no = no_halt why }

cell_goes : (test : Cell → Bool) (this : Instruction) (s : State) → GoesOn (branch_on_cell test this s)
cell_goes test this s =
    either (is_in_core s.storage this.b) _ (stopped stop.Address s) (record { no = refl }) (record { no = refl })

branch_goes : (this : Instruction) (s : State) → GoesOn (after_branch this s)
branch_goes this s =
    either (this.len == 4) _ _ (record { no = refl })
    (either (this.len == 5) _ _ (record { no = refl }) (cell_goes (has_char this.d) this s))

store_goes : (address : ℕ) (this : Instruction) (s : State) → GoesOn (after_store address this s)
store_goes address this s =
    either (has_places s.storage this.a 3) _ (stopped stop.Address s) (record { no = refl }) (record { no = refl })

cards_go : (request : IoRequest) (b : ℕ) (this : Instruction) (s : State) → GoesOn (after_cards request b this s)
cards_go request b this s =
    let after = move_on (nat_le 4 this.len) b this (with_all request s) in
    let free : NoHalt (first_io_stop request s.devices) =
    either_stop (is_some request.line && is_full s.devices.paper) (Some stop.Forms) _ (record { no = refl })
    (either_stop (request.reads && (length s.devices.hopper == 0)) (Some stop.Reader) _ (record { no = refl })
    (either_stop (request.punches && is_full s.devices.stacker) (Some stop.Stacker) None (record { no = refl })
    (record { no = refl }))) in
    record { no = ap is_halt (card_stops (first_io_stop request s.devices) s after) ∙ free.no }

line_goes : (this : Instruction) (s : State) → GoesOn (after_write this s)
line_goes this s =
    either (has_d this.len && not (this.d == lozenge)) (stopped stop.DChar s) _ (record { no = refl }) (cards_go (line_alone (has_d this.len) s.storage) beyond_print_area this s)

control_goes : (this : Instruction) (s : State) (outcome : Result Carriage ControlFault)
    → GoesOn (after_control this s outcome)
control_goes this s (Ok carriage) = record { no = refl }
control_goes this s (Err fault.DChar) = record { no = refl }
control_goes this s (Err fault.Carriage) = record { no = refl }

keeping_goes : (d : ℕ) (t : Stepped) → GoesOn t → GoesOn (keeping d t)
keeping_goes d t goes = record { no = ap is_halt (kept_stops d t) ∙ goes.no }

perform_goes : (operation : Operation) (this : Instruction) (s : State)
    → GoesOn (perform operation this s) ⊎ (operation ≡ op.Halt)
perform_goes op.Add this s = inl (field_goes this s (sum_at s.storage this.a this.b))
perform_goes op.Subtract this s = inl (field_goes this s (difference_at s.storage this.a this.b))
perform_goes op.ZeroAdd this s = inl (field_goes this s (zero_sum_at s.storage this.a this.b))
perform_goes op.ZeroSubtract this s = inl (field_goes this s (zero_difference_at s.storage this.a this.b))
perform_goes op.Move this s = inl (field_goes this s (move_at s.storage this.a this.b))
perform_goes op.Load this s = inl (field_goes this s (load_at s.storage this.a this.b))
perform_goes op.MoveDigit this s = inl (field_goes this s (digit_moved_at s.storage this.a this.b))
perform_goes op.MoveZone this s = inl (field_goes this s (zone_moved_at s.storage this.a this.b))
perform_goes op.SetWordMark this s = inl (field_goes this s (set_marks_at s.storage this.a this.b))
perform_goes op.ClearWordMark this s = inl (field_goes this s (clear_marks_at s.storage this.a this.b))
perform_goes op.ClearStorage this s = inl (clear_goes this s (clear_down_at s.storage this.b))
perform_goes op.Compare this s = inl (comparison_goes this s (comparison_at s.storage this.a this.b))
perform_goes op.ZeroSuppress this s = inl (field_goes this s (suppress_at s.storage this.a this.b))
perform_goes op.Edit this s = inl (field_goes this s (edit_at s.storage this.a this.b))
perform_goes op.Branch this s = inl (branch_goes this s)
perform_goes op.BranchOnCell this s = inl (cell_goes (passes this.d) this s)
perform_goes op.StoreA this s = inl (store_goes s.a this s)
perform_goes op.StoreB this s = inl (store_goes s.b this s)
perform_goes op.NoOperation this s = inl (record { no = refl })
perform_goes op.Halt this s = inr refl
perform_goes op.SelectStacker this s = inl (record { no = refl })
perform_goes op.ReadCard this s = inl (cards_go (asks reading s.storage) (beyond_last reading) this s)
perform_goes op.WriteLine this s = inl (line_goes this s)
perform_goes op.WriteAndRead this s =
    inl (cards_go (asks writing_and_reading s.storage) (beyond_last writing_and_reading) this s)
perform_goes op.PunchCard this s = inl (cards_go (asks punching s.storage) (beyond_last punching) this s)
perform_goes op.ReadAndPunch this s =
    inl (cards_go (asks reading_and_punching s.storage) (beyond_last reading_and_punching) this s)
perform_goes op.WriteAndPunch this s =
    inl (cards_go (asks writing_and_punching s.storage) (beyond_last writing_and_punching) this s)
perform_goes op.WriteReadAndPunch this s = inl (cards_go (asks all_three s.storage) (beyond_last all_three) this s)
perform_goes op.ControlCarriage this s = inl (control_goes this s (controlled s.devices.carriage this.d))

-- no tape operation halts
tape_goes : (unit : Option TapeUnit) (known : Bool) (s : State) → GoesOn (stopped (tape_stop_by unit known) s)
tape_goes None known s = record { no = refl }
tape_goes (Some unit) true s = record { no = refl }
tape_goes (Some unit) false s = record { no = refl }

-- what a feature makes of an instruction ends with a halt if it is one, or if the step of a branch by a cell does
fitted_goes : (made : Fitted) (this : Instruction) (s : State)
    → GoesOn (perform_fitted made this s) ⊎ ((made ≡ fitted.Halt) ⊎ (made ≡ fitted.OnCell))
fitted_goes fitted.OnCell this s = inr (inr refl)
fitted_goes fitted.OnBits this s = inl (keeping_goes this.d _ (cell_goes (shares_bit this.d) this s))
fitted_goes fitted.CharacterAgain this s =
    inl (keeping_goes s.chained _ (cell_goes (has_char s.chained) (again this s) s))
fitted_goes fitted.CellAgain this s = inl (keeping_goes s.chained _ (cell_goes (passes s.chained) (again this s) s))
fitted_goes fitted.BitsAgain this s =
    inl (either s.features.lengths _ (stopped stop.Length s)
    (keeping_goes s.chained _ (cell_goes (shares_bit s.chained) (again this s) s)) (record { no = refl }))
fitted_goes fitted.StoreA this s = inl (store_goes s.a this s)
fitted_goes fitted.StoreB this s = inl (store_goes s.b this s)
fitted_goes fitted.StoreSecond this s =
    inl (either (has_places s.storage this.a 3) _ (stopped stop.Address s) (record { no = refl }) (record { no = refl }))
fitted_goes fitted.Halt this s = inr (inl refl)
fitted_goes fitted.Feed this s = inl (record { no = refl })
fitted_goes fitted.Multiply this s = inl (field_goes this s (product_at s.storage this.a this.b))
fitted_goes fitted.Divide this s = inl (field_goes this s (quotient_at s.storage this.a this.b))
fitted_goes fitted.MoveRecord this s = inl (field_goes this s (record_at s.storage this.a this.b))
fitted_goes fitted.ModifyAddress this s = inl (field_goes this s (address_sum_at s.storage this.a this.b))
fitted_goes fitted.MoveTape this s =
    inl (tape_goes (unit_at s.storage (s.i + 1)) (is_letter this.d transfer_letters) s)
fitted_goes fitted.LoadTape this s =
    inl (tape_goes (unit_at s.storage (s.i + 1)) (is_letter this.d transfer_letters) s)
fitted_goes fitted.ControlTape this s =
    inl (tape_goes (unit_at s.storage (s.i + 1)) (is_letter this.d control_letters) s)
fitted_goes fitted.NoLength this s = inl (record { no = refl })

-- a check that ended with a halt was passed
passed : (unfitted fits : Bool) (t : Stepped) (s : State)
    → is_halt (if unfitted then stopped stop.NotFitted s else (if fits then t else stopped stop.Length s)).stop ≡ true
    → (if unfitted then stopped stop.NotFitted s else (if fits then t else stopped stop.Length s)) ≡ t
passed true fits t s e = cc
passed false true t s e = refl
passed false false t s e = cc

-- what is left of a machine by a halt of this length
abbrev halted : ℕ → State → State
halted len s = go_on (len == 4) (instruction_of op.Halt len s) s

-- a step ended with a halt: it is one, and this is left
record HasHalted (s after : State) : Type 0 where
  begins : begins_at s.storage s.i ≡ true
  is : operation_of (char_of s) ≡ Some op.Halt
  leaves : after ≡ halted (length_at s.storage op.Halt s.i) s

-- the same of the check of an operation
record IsHalting (found : Option Operation) (s after : State) : Type 0 where
  is : found ≡ Some op.Halt
  leaves : after ≡ halted (length_at s.storage op.Halt s.i) s

of_halt : (operation : Operation) (s : State) → operation ≡ op.Halt
    → IsHalting (Some operation) s
    (perform operation (instruction_of operation (length_at s.storage operation s.i) s) s).state
of_halt found s is =
    subst (λ (each : Operation). IsHalting (Some each) s
    (perform each (instruction_of each (length_at s.storage each s.i) s) s).state) (sym is)
    (record { is = refl; leaves = refl })

performed : (operation : Operation) (s : State) (this : Instruction) → is_halt (perform operation this s).stop ≡ true
    → operation ≡ op.Halt
performed operation s this e =
    elim (perform_goes operation this s) as (λ _. operation ≡ op.Halt) [ inl free ↦ (let no = free.no in cc) | inr is ↦ is ]

length_halts : (operation : Operation) (s : State)
    → is_halt (check_length operation (length_at s.storage operation s.i) s).stop ≡ true
    → IsHalting (Some operation) s (check_length operation (length_at s.storage operation s.i) s).state
length_halts operation s e =
    let len = length_at s.storage operation s.i in
    let t = perform operation (instruction_of operation len s) s in
    let same = passed (is_unfitted_length operation len) (has_length operation len) t s e in
    let is = performed operation s (instruction_of operation len s)
    (sym (ap (λ (each : Stepped). is_halt each.stop) same) ∙ e) in
    subst (λ (each : Stepped). IsHalting (Some operation) s each.state) (sym same) (of_halt operation s is)

unknown : (c : Bool) (s : State)
    → is_halt (stopped (if c then stop.NotFitted else stop.OpCode) s).stop ≡ false
unknown true s = refl
unknown false s = refl

operation_halts : (found : Option Operation) (char : ℕ) (s : State)
    → is_halt (check_operation found char s).stop ≡ true
    → IsHalting found s (check_operation found char s).state
operation_halts None char s e = let no = unknown (is_unfitted char) s in cc
operation_halts (Some operation) char s e = length_halts operation s e

begun : (c : Bool) (t : Stepped) (s : State) → is_halt (if c then t else stopped stop.NoMark s).stop ≡ true
    → (c ≡ true) × ((if c then t else stopped stop.NoMark s) ≡ t)
begun true t s e = (refl, refl)
begun false t s e = cc

step_halts : (s : State) → is_halt (step s).stop ≡ true → HasHalted s (step s).state
unfolding step
step_halts s is =
    let t = check_operation (operation_of (char_of s)) (char_of s) s in
    let both = begun (begins_at s.storage s.i) t s is in
    let halts = operation_halts (operation_of (char_of s)) (char_of s) s
    (sym (ap (λ (each : Stepped). is_halt each.stop) both.1) ∙ is) in
    record {
      begins = both.0;
      is = halts.is;
      leaves = ap (λ (each : Stepped). each.state) both.1 ∙ halts.leaves;
    }

-- a feature claims no instruction where none begins
claimed_begins : (begins : Bool) (found : Option Fitted) (made : Fitted) → (if begins then found else None) ≡ Some made
    → begins ≡ true
claimed_begins true found made e = refl
claimed_begins false found made e = absurd (none-some made e)

-- a branch by a cell that keeps its d-character ends as its step does
keeping_halts : (d : ℕ) (t : Stepped) → is_halt (keeping d t).stop ≡ true
    → (is_halt t.stop ≡ true) × ((keeping d t).state ≡ t.state)
keeping_halts d t e = by t.stop refl
  where
    by : (why : Option Stop) → t.stop ≡ why → (is_halt t.stop ≡ true) × ((keeping d t).state ≡ t.state)
    by None is = let no = kept_stops d t in cc
    by (Some why) is = (
      sym (ap is_halt (kept_stops d t)) ∙ e,
      ap (λ (found : Option Stop). (if is_some found then t else record t { state = keeping_d d t.state }).state) is,
    )

-- a halt of more lengths goes on after itself
fitted_halt : (s : State) → begins_at s.storage s.i ≡ true → fitted_at s ≡ Some fitted.Halt
    → HasHalted s (go_on false (fitted_instruction s) s)
fitted_halt s begins e =
    let is = halt_operation s begins e in
    let len = length_at s.storage op.Halt s.i in
    let same : len ≡ cells_at s.storage s.i = length_is s op.Halt is in
    let on : (len == 4) ≡ false = ap (λ (n : ℕ). n == 4) same ∙ (halt_claimed s begins e).1 in
    record {
      begins = begins;
      is = is;
      leaves =
          ap (λ (n : ℕ). go_on false (instruction_of op.Add n s) s) (sym same)
          ∙ ap (λ (branches : Bool). go_on branches (instruction_of op.Halt len s) s) (sym on);
    }

claimed_halts : (s : State) (made : Fitted) → fitted_at s ≡ Some made
    → is_halt (perform_fitted made (fitted_instruction s) s).stop ≡ true
    → HasHalted s (perform_fitted made (fitted_instruction s) s).state
claimed_halts s made e is =
    let this = fitted_instruction s in
    elim (fitted_goes made this s) as (λ _. HasHalted s (perform_fitted made this s).state) [
      | inl free ↦ (let no = free.no in cc)
      | inr one ↦ elim one as (λ _. HasHalted s (perform_fitted made this s).state) [
        | inl halt ↦
            subst (λ (each : Fitted). HasHalted s (perform_fitted each this s).state) (sym halt)
            (fitted_halt s (claimed_begins (begins_at s.storage s.i) _ made e) (e ∙ ap Some halt))
        | inr cell ↦
            subst (λ (each : Fitted). HasHalted s (perform_fitted each this s).state) (sym cell)
            (let both =
            keeping_halts this.d (step s) (ap (λ (each : Fitted). is_halt (perform_fitted each this s).stop) (sym cell) ∙ is) in
            subst (HasHalted s) (sym both.1) (step_halts s both.0))
      ]
    ]

fitted_halts : (s : State) → is_halt (fitted_step s).stop ≡ true → HasHalted s (fitted_step s).state
unfolding fitted_step
fitted_halts s is = by (fitted_at s) refl is
  where
    by : (found : Option Fitted) → fitted_at s ≡ found → is_halt (step_as found s).stop ≡ true
        → HasHalted s (step_as found s).state
    by None e is = step_halts s is
    by (Some made) e is = claimed_halts s made e is

-- only a halt has its graphic
pub graphic_of_halt : (char : ℕ) → operation_of char ≡ Some op.Halt → slice_index graphics char ≡ 46
graphic_of_halt char e = meaning_is (slice_index graphics char) op.Halt e

-- some places on and as many back
back : (at by : ℕ) → at < addresses → by ≤ 8 → below_by ((at + by) % addresses) by ≡ at
back at by in_range few = omega arith

-- the place before one
before_end : (at by : ℕ) → 0 < by → at + by ≤ addresses → below_by ((at + by) % addresses) 1 ≡ at + by - 1
before_end at by some most = omega arith

-- a halt leaves storage as it is
storage_stays : (c : Bool) (this : Instruction) (s : State) → (go_on c this s).storage ≡ s.storage
storage_stays true this s = refl
storage_stays false this s = refl

-- a choice whose test is known, and one made alike
choose : (c d : Bool) (x y z w : ℕ) → c ≡ true → d ≡ false → x ≡ w → (if c then x else y) ≡ (if d then z else w)
choose c d x y z w is_so is_none e = rw (is_so, is_none) e

same_choice : (c d : Bool) (x y z : ℕ) → d ≡ c → y ≡ z → (if c then x else y) ≡ (if d then x else z)
same_choice c d x y z same e = rw (same, e) refl

-- what is reported of a machine that was left so
abbrev Told : State → State → Type 0
Told s after = halted_at after ≡ told_of_halt s

-- the place of a halt is in core, and has a word mark
within : (s : State) → begins_at s.storage s.i ≡ true → length s.storage ≤ addresses → s.i < addresses
within s begins most =
    let inside = ltb-true s.i (length s.storage) (and_parts (is_in_core s.storage s.i) _ begins).0 in omega arith

-- how many characters it has: they are in core, and none after the first has a word mark
record AreHalts (storage : Storage) (at n : ℕ) : Type 0 where
  some : 0 < n
  few : n ≤ 8
  inside : at + n ≤ length storage
  unmarked : (k : ℕ) → k + 1 < n → (cell_at storage (at + 1 + k)).mark ≡ false

characters : (storage : Storage) (at : ℕ) → at < length storage
    → AreHalts storage at (length_at storage op.Halt at)
characters storage at in_core =
    let marked : Cell → Bool = λ cell. cell.mark in
    let ahead : List Cell = drop (at + 1) storage in
    let first : ℕ = position_or_len (λ (cell : Cell). cell.mark) ahead in
    let most : first ≤ length ahead = prefix_len-le-length (λ (cell : Cell). not cell.mark) ahead in
    let size : length ahead ≡ length storage - (at + 1) = length-drop (at + 1) storage in
    record {
      some = omega arith;
      few = omega arith;
      inside = omega (arith, most, size, in_core);
      unmarked =
          λ k early. ap marked (sym (get_or-drop (at + 1) storage k blank))
          ∙ fails_before_first (λ (cell : Cell). cell.mark) ahead k blank (omega (arith, early));
    }

-- so they are a field, from the place before the next instruction down
field_before : (storage : Storage) (at : ℕ) → begins_at storage at ≡ true → length storage ≤ addresses
    → (let n = length_at storage op.Halt at in field_len_of storage (below_by ((at + n) % addresses) 1) ≡ Some n)
field_before storage at begins most =
    let n : ℕ = length_at storage op.Halt at in
    let both = and_parts (is_in_core storage at) (cell_at storage at).mark begins in
    let are = characters storage at (ltb-true at (length storage) both.0) in
    let some = are.some in
    let inside = are.inside in
    let marked : ℕ → Bool = λ place. (cell_at storage place).mark in
    ap (field_len_of storage) (before_end at n some (omega (arith, inside, most)))
    ∙ field_len_is storage (at + n - 1) n (omega (arith, inside, some)) some (omega (arith, some))
    (λ i early.
    let place : at + n - 1 - i ≡ at + 1 + (n - 2 - i) = omega (arith, early) in
    ap marked place ∙ are.unmarked (n - 2 - i) (omega (arith, early)))
    (let place : at + n - 1 - (n - 1) ≡ at = omega (arith, some) in ap marked place ∙ both.1)

-- a halt with an address is found again, by the registers that it leaves
found_at : (s : State) (at : ℕ) → at ≡ s.i → begins_at s.storage s.i ≡ true
    → slice_index graphics (cell_at s.storage s.i).char ≡ 46 → length_at s.storage op.Halt s.i ≡ 4
    → is_halt_to s.storage at (effective_at s.storage (s.i + 1)) ≡ true
found_at s at same begins is len =
    subst (λ (n : ℕ). is_halt_to s.storage n (effective_at s.storage (s.i + 1)) ≡ true) (sym same)
    (rw (begins, is, len) (eq-eqb (effective_at s.storage (s.i + 1)) (effective_at s.storage (s.i + 1)) refl))

with_address : (s : State) → length s.storage ≤ addresses → begins_at s.storage s.i ≡ true
    → slice_index graphics (cell_at s.storage s.i).char ≡ 46 → length_at s.storage op.Halt s.i ≡ 4
    → Told s (halted 4 s)
with_address s most begins is len =
    let after = halted 4 s in
    let at = below_by ((s.i + 4) % addresses) 4 in
    let to = effective_at s.storage (s.i + 1) in
    let place : at ≡ s.i = back s.i 4 (within s begins most) (omega arith) in
    let is_so : has_branched after ≡ true =
    and_from (to == to) (is_halt_to s.storage at to) (eq-eqb to to refl) (found_at s at place begins is len) in
    let is_none : is_taken_for_another s ≡ false = rw len refl in
    choose (has_branched after) (is_taken_for_another s) at (below_by after.i (length_before after)) (below_by s.b 4) s.i
    is_so is_none place

-- any other is right before the I register
without_address : (s : State) → length s.storage ≤ addresses → begins_at s.storage s.i ≡ true
    → (length_at s.storage op.Halt s.i == 4) ≡ false → Told s (record s { i = after_halt s })
without_address s most begins on =
    let after : State = record s { i = after_halt s } in
    let len = length_at s.storage op.Halt s.i in
    let same : is_taken_for_another s ≡ has_branched after =
    ap (λ (b : Bool). not b && (s.a == after_halt s) && is_halt_to s.storage (below_by s.b 4) (after_halt s)) on in
    let inside = ltb-true s.i (length s.storage) (and_parts (is_in_core s.storage s.i) _ begins).0 in
    let few : len ≤ 8 = (characters s.storage s.i inside).few in
    let before : length_before after ≡ len =
    ap (λ (o : Option ℕ). unwrap_or o 1) (field_before s.storage s.i begins most) in
    same_choice (has_branched after) (is_taken_for_another s) (below_by s.b 4)
    (below_by (after_halt s) (length_before after)) s.i same
    (ap (below_by (after_halt s)) before ∙ back s.i len (within s begins most) few)

pub halt_told : (s : State) → length (fitted_step s).state.storage ≤ addresses
    → (fitted_step s).stop ≡ Some stop.Halt
    → halted_at (fitted_step s).state ≡ told_of_halt s
halt_told s most e =
    let halts = fitted_halts s (ap is_halt e) in
    let len = length_at s.storage op.Halt s.i in
    let same : (fitted_step s).state.storage ≡ s.storage =
    ap (λ (each : State). each.storage) halts.leaves
    ∙ storage_stays (len == 4) (instruction_of op.Halt len s) s in
    let most' : length s.storage ≤ addresses = subst (λ (each : Storage). length each ≤ addresses) same most in
    let is = graphic_of_halt (char_of s) halts.is in
    by (len == 4) refl most' is halts
  where
    by : (b : Bool) → (length_at s.storage op.Halt s.i == 4) ≡ b → length s.storage ≤ addresses
        → slice_index graphics (char_of s) ≡ 46 → HasHalted s (fitted_step s).state → Told s (fitted_step s).state
    by true four most is halts =
        let is_four = eqb-true (length_at s.storage op.Halt s.i) 4 four in
        subst (λ (after : State). Told s after) (sym (halts.leaves ∙ ap (λ (n : ℕ). halted n s) is_four))
        (with_address s most halts.begins is is_four)
    by false on most is halts =
        let len = length_at s.storage op.Halt s.i in
        subst (λ (after : State). Told s after)
        (sym (halts.leaves ∙ ap (λ (b : Bool). go_on b (instruction_of op.Halt len s) s) on))
        (without_address s most halts.begins on)
