-- What features make of halts and of branches by a cell, by the rows of their table.
use Rattle.std.proofs.Common.{◌≡◌, ℕ, ◌+◌, ◌==◌, ◌&&◌, ◌||◌, not, Bool, true, false, List, [], ◌∷◌, Option, None}
use Rattle.std.proofs.Common.{Some, refl, sym, ◌∙◌, ap, subst, inl, inr, if◌then◌else◌}
use Rattle.std.proofs.lemmas.Bool.{and_parts, eqb-true, false≢true, or_cases}
use Rattle.std.proofs.lemmas.Option.{none-some}
use Rattle.std.specs.Prelude.{cond, find, is_some, min, slice_index, IfSome}
use Rattle.std.specs.List.{list_all, list_any}
use Rattle.std.specs.Option.{option_map}
use Rattle.bcd_1401.specs.Graphic.{graphics}
use Rattle.core_1401.specs.Field.{next_mark_from}
use Rattle.core_1401.specs.Storage.{cell_at, is_in_core}
use Rattle.machine_tables.specs.Fitted.{FittedRow, claims, fitted_in, fitted_lengths, fitted_rows}
use Rattle.machine_tables.specs.Operation.{has_length, is_unfitted_length, meaning_of, operation_of}
use Rattle.machine_tables.specs.declared.fitted.Fitted.{Fitted}
use Rattle.machine_tables.specs.declared.fitted.Fitted.TheVariants as fitted
use Rattle.machine_tables.specs.declared.fitted.FittedLengths.{FittedLengths}
use Rattle.machine_tables.specs.declared.operation.Operation.{Operation}
use Rattle.machine_tables.specs.declared.operation.Operation.TheVariants as op
use Rattle.machine_tables.specs.Features.{has_feature}
use Rattle.machine_tables.specs.declared.features.Feature.{Feature}
use Rattle.machine_tables.specs.declared.features.Features.{Features}
use Rattle.machine_tables.specs.declared.stop.Stop.{Stop}
use Rattle.machine_tables.specs.declared.stop.Stop.TheVariants as stop
use Rattle.cpu_1401.specs.Branch.{has_char, passes}
use Rattle.cpu_1401.specs.Chaining.{keeping, keeping_d}
use Rattle.cpu_1401.specs.Fetched.{cells_at, longest_of}
use Rattle.cpu_1401.specs.Fitting.{fitted_at, fitted_instruction, fitted_step, perform_fitted, step_as}
use Rattle.cpu_1401.specs.Instruction.{begins_at, instruction_of, length_at}
use Rattle.cpu_1401.specs.State.{State}
use Rattle.cpu_1401.specs.Step.{check_length, check_operation, perform, step}
use Rattle.cpu_1401.specs.Stepped.{Stepped, stopped}
use Rattle.job_steps.specs.Halting.{halt_graphic, halt_and_branch_length}
use Rattle.job_steps.specs.Reason.{IsSo, IsSoOf}
use Rattle.job_steps.specs.Said.{said_as}
use Rattle.job_steps.specs.declared.reason.Reason.{Reason}
use Rattle.job_steps.proofs.StopLemmas.{cell_branch_stops}

-- a number of a list is as all of them are
one_of : (is : ℕ → Bool) (xs : List ℕ) (n : ℕ) → list_all is xs ≡ true → list_any (λ each. each == n) xs ≡ true
    → is n ≡ true
one_of is [] n all there = absurd (false≢true there)
one_of is (x ∷ xs) n all there =
    let parts = and_parts (is x) (list_all is xs) all in
    elim (or_cases (x == n) (list_any (λ each. each == n) xs) there) [
      | inl here ↦ subst (λ (m : ℕ). is m ≡ true) (eqb-true x n here) parts.0
      | inr beyond ↦ one_of is xs n parts.1 beyond
    ]

-- Halts have their graphic, and no four characters. Branches by a cell are B and V, and have eight.
abbrev is_as_said : FittedRow → Bool
is_as_said (graphic, lengths, feature, fitted.OnCell) =
    ((graphic == 66) || (graphic == 86)) && list_all (λ each. each == 8) (fitted_lengths lengths)
is_as_said (graphic, lengths, feature, fitted.OnBits) = true
is_as_said (graphic, lengths, feature, fitted.CharacterAgain) = true
is_as_said (graphic, lengths, feature, fitted.CellAgain) = true
is_as_said (graphic, lengths, feature, fitted.BitsAgain) = true
is_as_said (graphic, lengths, feature, fitted.StoreA) = true
is_as_said (graphic, lengths, feature, fitted.StoreB) = true
is_as_said (graphic, lengths, feature, fitted.StoreSecond) = true
is_as_said (graphic, lengths, feature, fitted.Halt) =
    (graphic == halt_graphic) && list_all (λ each. not (each == halt_and_branch_length)) (fitted_lengths lengths)
is_as_said (graphic, lengths, feature, fitted.Feed) = true
is_as_said (graphic, lengths, feature, fitted.Multiply) = true
is_as_said (graphic, lengths, feature, fitted.Divide) = true
is_as_said (graphic, lengths, feature, fitted.MoveRecord) = true
is_as_said (graphic, lengths, feature, fitted.ModifyAddress) = true
is_as_said (graphic, lengths, feature, fitted.MoveTape) = true
is_as_said (graphic, lengths, feature, fitted.LoadTape) = true
is_as_said (graphic, lengths, feature, fitted.ControlTape) = true
is_as_said (graphic, lengths, feature, fitted.NoLength) = true

-- the row by which a feature claims an instruction
record IsClaimed (graphic len : ℕ) (made : Fitted) : Type 0 where
  lengths : FittedLengths
  feature : Feature
  as_said : is_as_said (graphic, lengths, feature, made) ≡ true
  has : list_any (λ each. each == len) (fitted_lengths lengths) ≡ true

row_of : (features : Features) (graphic len : ℕ) (made : Fitted) (rows : List FittedRow) → list_all is_as_said rows ≡ true
    → option_map (λ (row : FittedRow). row.3) (find (claims features graphic len) rows) ≡ Some made
    → IsClaimed graphic len made
row_of features graphic len made [] all e = absurd (none-some made e)
row_of features graphic len made (first ∷ rows) all e =
    by (claims features graphic len first) refl e
    (row_of features graphic len made rows (and_parts (is_as_said first) (list_all is_as_said rows) all).1)
  where
    by : (b : Bool) → claims features graphic len first ≡ b
        → option_map (λ (row : FittedRow). row.3) (cond b (Some first) (find (claims features graphic len) rows)) ≡ Some made
        → (option_map (λ (row : FittedRow). row.3) (find (claims features graphic len) rows) ≡ Some made
        → IsClaimed graphic len made)
        → IsClaimed graphic len made
    by true is e beyond =
        let both =
        (and_parts ((first.0 == graphic) && list_any (λ each. each == len) (fitted_lengths first.1))
        (has_feature features first.2) is).0 in
        let parts = and_parts (first.0 == graphic) (list_any (λ each. each == len) (fitted_lengths first.1)) both in
        let same_made : first.3 ≡ made = cc in
        let said = (and_parts (is_as_said first) (list_all is_as_said rows) all).0 in
        record {
          lengths = first.1;
          feature = first.2;
          as_said =
              subst (λ (g : ℕ). is_as_said (g, first.1, first.2, made) ≡ true) (eqb-true first.0 graphic parts.0)
              (subst (λ (m : Fitted). is_as_said (first.0, first.1, first.2, m) ≡ true) same_made said);
          has = parts.1;
        }
    by false is e beyond = beyond e

claimed : (features : Features) (graphic len : ℕ) (made : Fitted) → fitted_in features graphic len ≡ Some made
    → IsClaimed graphic len made
claimed features graphic len made e = row_of features graphic len made fitted_rows refl e

-- what a feature makes of the instruction at the I register is by a row
claimed_here : (s : State) (made : Fitted) → begins_at s.storage s.i ≡ true → fitted_at s ≡ Some made
    → IsClaimed (slice_index graphics (cell_at s.storage s.i).char) (cells_at s.storage s.i) made
claimed_here s made begins e =
    claimed s.features (slice_index graphics (cell_at s.storage s.i).char) (cells_at s.storage s.i) made
    (sym (ap (λ (b : Bool). if b then fitted_in s.features (slice_index graphics (cell_at s.storage s.i).char)
    (cells_at s.storage s.i) else None) begins) ∙ e)

-- a halt has its graphic
pub halt_claimed : (s : State) → begins_at s.storage s.i ≡ true → fitted_at s ≡ Some fitted.Halt
    → (slice_index graphics (cell_at s.storage s.i).char ≡ halt_graphic)
    × ((cells_at s.storage s.i == halt_and_branch_length) ≡ false)
halt_claimed s begins e =
    let row = claimed_here s fitted.Halt begins e in
    let graphic = slice_index graphics (cell_at s.storage s.i).char in
    let parts =
    and_parts (graphic == halt_graphic)
    (list_all (λ each. not (each == halt_and_branch_length)) (fitted_lengths row.lengths)) row.as_said in (
      eqb-true graphic halt_graphic parts.0,
      negated (cells_at s.storage s.i == halt_and_branch_length)
          (one_of (λ each. not (each == halt_and_branch_length)) (fitted_lengths row.lengths) (cells_at s.storage s.i) parts.1
          row.has),
    )
  where
    negated : (b : Bool) → not b ≡ true → b ≡ false
    negated true e = absurd (false≢true e)
    negated false e = refl

-- so it is one of the operations
pub halt_operation : (s : State) → begins_at s.storage s.i ≡ true → fitted_at s ≡ Some fitted.Halt
    → operation_of (cell_at s.storage s.i).char ≡ Some op.Halt
halt_operation s begins e = ap meaning_of (halt_claimed s begins e).0

-- a branch that keeps its d-character stops for the same
pub kept_stops : (d : ℕ) (t : Stepped) → (keeping d t).stop ≡ t.stop
kept_stops d t = by (is_some t.stop) where
  by : (b : Bool) → (if b then t else record t { state = keeping_d d t.state }).stop ≡ t.stop
  by true = refl
  by false = refl

-- the cells of an operation are as many as it has characters
pub length_is : (s : State) (operation : Operation) → operation_of (cell_at s.storage s.i).char ≡ Some operation
    → length_at s.storage operation s.i ≡ cells_at s.storage s.i
length_is s operation is =
    ap (λ (found : Option Operation). min (longest_of found (cell_at s.storage (s.i + 4)).char)
    (next_mark_from s.storage s.i)) (sym is)

-- the step of an operation at a length that it has
performed : (s : State) (operation : Operation) (len : ℕ) → begins_at s.storage s.i ≡ true
    → operation_of (cell_at s.storage s.i).char ≡ Some operation → cells_at s.storage s.i ≡ len
    → is_unfitted_length operation len ≡ false → has_length operation len ≡ true
    → step s ≡ perform operation (instruction_of operation len s) s
unfolding step
performed s operation len begins is counted fitted own =
    let char = (cell_at s.storage s.i).char in
    ap (λ (b : Bool). if b then check_operation (operation_of char) char s else stopped stop.NoMark s) begins
    ∙ ap (λ (o : Option Operation). check_operation o char s) is
    ∙ ap (λ (n : ℕ). check_length operation n s) (length_is s operation is ∙ counted)
    ∙ ap (λ (no : Bool). if no then stopped stop.NotFitted s else (
    if has_length operation len then perform operation (instruction_of operation len s) s else stopped stop.Length s)) fitted
    ∙ ap (λ (yes : Bool). if yes then perform operation (instruction_of operation len s) s else stopped stop.Length s) own

-- so a branch by a cell, which has eight characters, stops if the cell at its B address isn't in core
pub on_cell_stops : (s : State) → begins_at s.storage s.i ≡ true → fitted_at s ≡ Some fitted.OnCell
    → (step s).stop ≡ (if is_in_core s.storage (fitted_instruction s).b then None else Some stop.Address)
on_cell_stops s begins e =
    let row = claimed_here s fitted.OnCell begins e in
    let graphic = slice_index graphics (cell_at s.storage s.i).char in
    let parts =
    and_parts ((graphic == 66) || (graphic == 86)) (list_all (λ each. each == 8) (fitted_lengths row.lengths)) row.as_said in
    let len : cells_at s.storage s.i ≡ 8 =
    eqb-true (cells_at s.storage s.i) 8
    (one_of (λ each. each == 8) (fitted_lengths row.lengths) (cells_at s.storage s.i) parts.1 row.has) in
    let at_eight : Option Stop =
    if is_in_core s.storage (instruction_of op.Add 8 s).b then None else Some stop.Address in
    let here : at_eight ≡ (if is_in_core s.storage (fitted_instruction s).b then None else Some stop.Address) =
    ap (λ (n : ℕ). let found : Option Stop =
    if is_in_core s.storage (instruction_of op.Add n s).b then None else Some stop.Address in found) (sym len) in
    elim (or_cases (graphic == 66) (graphic == 86) parts.0) [
      | inl b ↦
          ap (λ (t : Stepped). t.stop)
          (performed s op.Branch 8 begins (ap meaning_of (eqb-true graphic 66 b)) len refl refl)
          ∙ cell_branch_stops (has_char (instruction_of op.Branch 8 s).d) (instruction_of op.Branch 8 s) s ∙ here
      | inr v ↦
          ap (λ (t : Stepped). t.stop)
          (performed s op.BranchOnCell 8 begins (ap meaning_of (eqb-true graphic 86 v)) len refl refl)
          ∙ cell_branch_stops (passes (instruction_of op.BranchOnCell 8 s).d) (instruction_of op.BranchOnCell 8 s) s ∙ here
    ]

-- what a feature makes of an instruction is the step, and the instruction is as it reads it
pub claimed_stops : (s : State) (made : Fitted) → fitted_at s ≡ Some made
    → (perform_fitted made (fitted_instruction s) s).stop ≡ (fitted_step s).stop
unfolding fitted_step
claimed_stops s made e = ap (λ (found : Option Fitted). (step_as found s).stop) (sym e)

pub claimed_so : (s : State) (made : Fitted) (found : Option Reason) → fitted_at s ≡ Some made
    → IfSome found (IsSoOf (fitted_instruction s) s) → IfSome found (IsSo s)
claimed_so s made found e so =
    subst (λ (by : Option Fitted). IfSome found (IsSoOf (said_as by s) s)) (sym e) so
