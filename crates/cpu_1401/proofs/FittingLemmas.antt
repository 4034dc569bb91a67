-- A step with features, beside that of a machine without them.
use Rattle.std.proofs.Common.{◌≡◌, ◌≢◌, ℕ, zero, suc, ◌+◌, ◌-◌, ◌%◌, ◌<◌, ◌⊎◌, ◌&&◌, min, Bool, true, false, length, Option, None}
use Rattle.std.proofs.Common.{Some, refl, sym, ◌∙◌, ap, arith, inl, inr, subst}
use Rattle.std.proofs.lemmas.Bool.{and_from, cases_Bool, false≢true, lt-ltb}
use Rattle.std.specs.Prelude.{if◌then◌else◌, is_some, slice_index}
use Rattle.bcd_1401.specs.Graphic.{graphics}
use Rattle.core_1401.specs.Address.{addresses}
use Rattle.core_1401.specs.Field.{next_mark_from}
use Rattle.core_1401.specs.Storage.{cell_at, is_in_core}
use Rattle.machine_tables.specs.Operation.{has_length, is_unfitted, is_unfitted_length, operation_of}
use Rattle.machine_tables.specs.declared.operation.Operation.{Operation}
use Rattle.machine_tables.specs.Features.{no_features}
use Rattle.machine_tables.specs.declared.features.Features.{Features}
use Rattle.machine_tables.specs.declared.stop.Stop.{Stop}
use Rattle.machine_tables.specs.declared.stop.Stop.TheVariants as stop
use Rattle.cpu_1401.specs.Chaining.{is_by_cell, keeping, kept, perform_keeping}
use Rattle.cpu_1401.specs.Decoded.{Says, Serve}
use Rattle.cpu_1401.specs.Fetched.{cells_at, longest_of}
use Rattle.machine_tables.specs.Fitted.{fitted_in}
use Rattle.cpu_1401.specs.Fitting.{fitted_at, fitted_instruction, fitted_step, perform_fitted, step_as}
use Rattle.cpu_1401.specs.FittingLaw.{FittingLaw, IsAlike, IsCarriedOut}
use Rattle.cpu_1401.specs.Instruction.{begins_at, instruction_of, length_at}
use Rattle.cpu_1401.specs.Run.{plain_run_for, run_for, run_on}
use Rattle.cpu_1401.specs.State.{State}
use Rattle.cpu_1401.specs.Step.{check_length, check_operation, perform, step}
use Rattle.cpu_1401.specs.Stepped.{Stepped, stopped}
use Rattle.cpu_1401.specs.declared.decoded.Decoded.{Decoded}
use Rattle.machine_tables.specs.declared.fitted.Fitted.{Fitted}
use Rattle.machine_tables.specs.declared.fitted.Fitted.TheVariants.{OnCell}
use Rattle.cpu_1401.specs.declared.instruction.Instruction.{Instruction}
use Rattle.cpu_1401.proofs.DecodedLemmas.{says_step}
use Rattle.cpu_1401.proofs.FeatureLemmas.{fitted_step_features, perform_features, step_features}
use Rattle.cpu_1401.proofs.FittedLemmas.{features_keep, kept_in, meaning_is, nothing_claimed, unclaimed}

-- without the lengths nothing is kept
nothing_kept : (d : ℕ) (t : Stepped) → t.state.features.lengths ≡ false → keeping d t ≡ t
nothing_kept d t none =
    ap (λ (lengths : Bool). if is_some t.stop then t else record t {
      state = record t.state { chained = if lengths then d else t.state.chained };
    }) none
    ∙ by (is_some t.stop)
  where
    by : (refused : Bool) → (if refused then t else record t { state = record t.state { chained = t.state.chained } }) ≡ t
    by true = refl
    by false = refl

-- nor by a branch that was refused
pub refused_keeps_nothing : (d : ℕ) (t : Stepped) (why : Stop) → t.stop ≡ Some why → keeping d t ≡ t
refused_keeps_nothing d t why e =
    ap (λ (found : Option Stop). if is_some found then t else record t {
      state = record t.state { chained = if t.state.features.lengths then d else t.state.chained };
    }) e

-- what is kept aside, the step is the same
alike_but_for_d : (d : ℕ) (t : Stepped) → IsAlike (keeping d t) t
alike_but_for_d d t = by (is_some t.stop)
  where
    by : (refused : Bool) → IsAlike (if refused then t else record t {
      state = record t.state { chained = if t.state.features.lengths then d else t.state.chained };
    }) t
    by true = record { stop = refl; state = refl }
    by false = record { stop = refl; state = refl }

-- nor by any operation
pub refused_operation : (s : State) (operation : Operation) (this : Instruction) (why : Stop)
    → perform operation this s ≡ stopped why s → perform_keeping operation this s ≡ stopped why s
refused_operation s operation this why e = ap (kept operation this) e ∙ by (is_by_cell operation this.len)
  where
    by : (is_kept : Bool) → (if is_kept then keeping this.d (stopped why s) else stopped why s) ≡ stopped why s
    by true = refl
    by false = refl

-- a step that is carried out without features, with what a branch keeps
kept_step : (s : State) (operation : Operation) (len : ℕ) (own : Instruction) → own.len ≡ len
    → step s ≡ perform operation own s → (fitted_instruction s).d ≡ own.d
    → step_as (kept_in s.features operation len) s ≡ perform_keeping operation own s
kept_step s operation len own same does d =
    by (is_by_cell operation len) s.features.lengths refl refl
    ∙ ap (λ n. if is_by_cell operation n then keeping own.d (perform operation own s) else perform operation own s)
    (sym same)
  where
    by : (is_kept has : Bool) → is_by_cell operation len ≡ is_kept → s.features.lengths ≡ has
        → step_as (if is_kept && has then Some OnCell else None) s
        ≡ (if is_kept then keeping own.d (perform operation own s) else perform operation own s)
    by true true is lengths = ap (λ n. keeping n (step s)) d ∙ ap (keeping own.d) does
    by true false is lengths =
        does ∙ sym (nothing_kept own.d (perform operation own s)
        (ap (λ (features : Features). features.lengths) (perform_features operation own s) ∙ lengths))
    by false has is lengths = does

-- how many cells the instruction has, by its operation
cells_of_operation : (s : State) (operation : Operation) → operation_of (cell_at s.storage s.i).char ≡ Some operation
    → cells_at s.storage s.i ≡ length_at s.storage operation s.i
cells_of_operation s meant e =
    ap (λ (found : Option Operation). min (longest_of found (cell_at s.storage (s.i + 4)).char)
    (next_mark_from s.storage s.i)) e

-- what features make of the instruction of an operation
at_operation : (s : State) (operation : Operation) (len : ℕ) → begins_at s.storage s.i ≡ true
    → operation_of (cell_at s.storage s.i).char ≡ Some operation → length_at s.storage operation s.i ≡ len
    → has_length operation len ≡ true → fitted_at s ≡ kept_in s.features operation len
at_operation s operation len begins is is_len has =
    let graphic : ℕ = slice_index graphics (cell_at s.storage s.i).char in
    ap (λ (yes : Bool). if yes then fitted_in s.features graphic (cells_at s.storage s.i) else None) begins
    ∙ ap (fitted_in s.features graphic) (cells_of_operation s operation is ∙ is_len)
    ∙ ap (λ g. fitted_in s.features g len) (meaning_is graphic operation is)
    ∙ features_keep s.features operation len has

-- the step does what the cells say, and keeps the d-character of a branch by a cell
pub says_fitted : (s : State) (this : Decoded) → Says s.storage s.i this
    → fitted_step s ≡ perform_keeping this.operation (instruction_of this.operation this.len s) s
unfolding fitted_step
says_fitted s this says =
    let in_core : s.i < length s.storage = omega (arith, says.inside, this.some) in
    let begins : begins_at s.storage s.i ≡ true =
    and_from (is_in_core s.storage s.i) (cell_at s.storage s.i).mark (lt-ltb s.i (length s.storage) in_core) says.mark in
    let cells : cells_at s.storage s.i ≡ this.len = cells_of_operation s this.operation says.operation ∙ says.len in
    ap (λ (found : Option Fitted). step_as found s)
    (at_operation s this.operation this.len begins says.operation says.len says.is_length)
    ∙ kept_step s this.operation this.len (instruction_of this.operation this.len s) refl (says_step s this says)
    (ap (λ n. (cell_at s.storage (s.i + n - 1)).char) cells)

-- and so it does with other addresses that serve
pub served : (s : State) (this : Decoded) (a b next : ℕ) → Says s.storage s.i this
    → next ≡ (s.i + this.len) % addresses → Serve s this a b → fitted_step s
    ≡ perform_keeping this.operation (record { len = this.len; a = a; b = b; next = next; d = this.d }) s
served s this a b next says is_next serve =
    let own : Instruction = instruction_of this.operation this.len s in
    let does : Instruction → Stepped = λ made. perform_keeping this.operation made s in
    says_fitted s this says
    ∙ ap (kept this.operation own) (sym serve)
    ∙ ap (λ d. does (record own { a = a; b = b; d = d })) says.d
    ∙ ap (λ n. does (record own { a = a; b = b; d = this.d; next = n })) (sym is_next)

-- what features make of an instruction: nothing, a branch by a cell if the lengths are among them, or something that is
-- refused without them
abbrev IsClaimed : State → Type 0
IsClaimed s =
    (fitted_at s ≡ None)
    ⊎ (((fitted_at s ≡ Some OnCell) × (s.features.lengths ≡ true))
    ⊎ ((step s ≡ stopped stop.NotFitted s) ⊎ (step s ≡ stopped stop.Length s)))

kept_or_not : (s : State) (by has : Bool) → s.features.lengths ≡ has
    → fitted_at s ≡ (if by && has then Some OnCell else None) → IsClaimed s
kept_or_not s true true fitted e = inr (inl (e, fitted))
kept_or_not s true false fitted e = inl e
kept_or_not s false has fitted e = inl e

-- a character that is no operation
claimed_none : (s : State) → begins_at s.storage s.i ≡ true → operation_of (cell_at s.storage s.i).char ≡ None
    → IsClaimed s
unfolding step
claimed_none s begins none =
    let char : ℕ = (cell_at s.storage s.i).char in
    let graphic : ℕ = slice_index graphics char in
    elim (cases_Bool (is_unfitted char)) [
      | inl unfitted ↦ inr (inr (inl (
          ap (λ (yes : Bool). if yes then check_operation (operation_of char) char s else stopped stop.NoMark s) begins
          ∙ ap (λ (found : Option Operation). check_operation found char s) none
          ∙ ap (λ (is : Bool). stopped (if is then stop.NotFitted else stop.OpCode) s) unfitted)))
      | inr unknown ↦ inl (
          ap (λ (yes : Bool). if yes then fitted_in s.features graphic (cells_at s.storage s.i) else None) begins
          ∙ unclaimed s.features graphic (cells_at s.storage s.i) none unknown)
    ]

-- an operation, at a length that it has or hasn't
claimed_operation : (s : State) (operation : Operation) → begins_at s.storage s.i ≡ true
    → operation_of (cell_at s.storage s.i).char ≡ Some operation → IsClaimed s
unfolding step
claimed_operation s operation begins is =
    let char : ℕ = (cell_at s.storage s.i).char in
    let len : ℕ = length_at s.storage operation s.i in
    let does : step s ≡ check_length operation len s =
    ap (λ (yes : Bool). if yes then check_operation (operation_of char) char s else stopped stop.NoMark s) begins
    ∙ ap (λ (found : Option Operation). check_operation found char s) is in
    elim (cases_Bool (is_unfitted_length operation len)) [
      | inl unfitted ↦ inr (inr (inl (does ∙ rw unfitted refl)))
      | inr fitted ↦ elim (cases_Bool (has_length operation len)) [
        | inl has ↦ kept_or_not s (is_by_cell operation len) s.features.lengths refl
            (at_operation s operation len begins is refl has)
        | inr none ↦ inr (inr (inr (does ∙ rw (fitted, none) refl)))
      ]
    ]

claimed : (s : State) → IsClaimed s
claimed s =
    elim (cases_Bool (begins_at s.storage s.i)) [
      | inl begins ↦ by begins (operation_of (cell_at s.storage s.i).char) refl
      | inr none ↦ inl (ap (λ (yes : Bool).
          if yes then fitted_in s.features (slice_index graphics (cell_at s.storage s.i).char) (cells_at s.storage s.i)
          else None) none)
    ] where
      by : begins_at s.storage s.i ≡ true → (found : Option Operation)
          → operation_of (cell_at s.storage s.i).char ≡ found → IsClaimed s
      by begins None is = claimed_none s begins is
      by begins (Some operation) is = claimed_operation s operation begins is

-- a step by what is claimed
pub unclaimed_step : (s : State) → fitted_at s ≡ None → fitted_step s ≡ step s
unfolding fitted_step
unclaimed_step s e = ap (λ (found : Option Fitted). step_as found s) e

pub claimed_step : (s : State) (made : Fitted) → fitted_at s ≡ Some made
    → fitted_step s ≡ perform_fitted made (fitted_instruction s) s
unfolding fitted_step
claimed_step s made e = ap (λ (found : Option Fitted). step_as found s) e

-- with nothing fitted the step is that of a machine without features
none_either : (begins : Bool) (found : Option Fitted) → found ≡ None → (if begins then found else None) ≡ None
none_either true found e = e
none_either false found e = refl

pub plain_step : (s : State) → s.features ≡ no_features → fitted_step s ≡ step s
plain_step s none =
    let graphic : ℕ = slice_index graphics (cell_at s.storage s.i).char in
    let cells : ℕ = cells_at s.storage s.i in
    unclaimed_step s (
    ap (λ (features : Features). if begins_at s.storage s.i then fitted_in features graphic cells else None) none
    ∙ none_either (begins_at s.storage s.i) (fitted_in no_features graphic cells) (nothing_claimed graphic cells))

-- and so is a run
plain_run : (limit : ℕ) (s : State) → s.features ≡ no_features → run_for limit s ≡ plain_run_for limit s
unfolding run_for plain_run_for
plain_run zero s none = refl
plain_run (suc limit) s none =
    ap (λ (t : Stepped). run_on t (run_for limit t.state)) (plain_step s none)
    ∙ ap (run_on (step s)) (plain_run limit (step s).state (step_features s ∙ none))

-- what is carried out is no refusal
not_refused : (t u : Stepped) → IsCarriedOut t → t ≡ u → IsCarriedOut u
not_refused t u carried e = subst IsCarriedOut e carried

unfitted_refused : (s : State) → IsCarriedOut (stopped stop.NotFitted s) → ⊥
unfitted_refused s (inl none) = cc
unfitted_refused s (inr halt) = cc

length_refused : (s : State) → IsCarriedOut (stopped stop.Length s) → ⊥
length_refused s (inl none) = cc
length_refused s (inr halt) = cc

carried_out : (s : State) → IsCarriedOut (step s) → IsAlike (fitted_step s) (step s)
carried_out s carried =
    elim (claimed s) [
      | inl none ↦ let same = unclaimed_step s none in
          record {
            stop = ap (λ (t : Stepped). t.stop) same;
            state = ap (λ (t : Stepped). record t.state { chained = (step s).state.chained }) same;
          }
      | inr (inl kept) ↦ subst (λ (t : Stepped). IsAlike t (step s)) (sym (claimed_step s OnCell kept.0))
          (alike_but_for_d (fitted_instruction s).d (step s))
      | inr (inr (inl unfitted)) ↦ absurd (unfitted_refused s (not_refused (step s) _ carried unfitted))
      | inr (inr (inr length)) ↦ absurd (length_refused s (not_refused (step s) _ carried length))
    ]

without_lengths : (s : State) → s.features.lengths ≡ false → IsCarriedOut (step s) → fitted_step s ≡ step s
without_lengths s without carried =
    elim (claimed s) [
      | inl none ↦ unclaimed_step s none
      | inr (inl kept) ↦ absurd (false≢true (sym without ∙ kept.1))
      | inr (inr (inl unfitted)) ↦ absurd (unfitted_refused s (not_refused (step s) _ carried unfitted))
      | inr (inr (inr length)) ↦ absurd (length_refused s (not_refused (step s) _ carried length))
    ]

stops : (s : State) (why : Stop) → (step s).stop ≡ Some why → why ≢ stop.NotFitted → why ≢ stop.Length
    → fitted_step s ≡ step s
stops s why e not_unfitted not_length =
    elim (claimed s) [
      | inl none ↦ unclaimed_step s none
      | inr (inl kept) ↦ claimed_step s OnCell kept.0 ∙ refused_keeps_nothing (fitted_instruction s).d (step s) why e
      | inr (inr (inl unfitted)) ↦
          let same : Some why ≡ Some stop.NotFitted = sym e ∙ ap (λ (t : Stepped). t.stop) unfitted in
          absurd (not_unfitted cc)
      | inr (inr (inr length)) ↦
          let same : Some why ≡ Some stop.Length = sym e ∙ ap (λ (t : Stepped). t.stop) length in
          absurd (not_length cc)
    ]

pub fitting_laws : FittingLaw
fitting_laws = record {
  stays = fitted_step_features;
  plain = plain_step;
  plain_run = plain_run;
  carried_out = carried_out;
  without_lengths = without_lengths;
  stops = stops;
}
