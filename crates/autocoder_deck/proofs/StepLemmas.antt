-- Steps of a machine, one after the other, up to a state.
use Rattle.std.proofs.Common.{◌≡◌, ℕ, suc, ◌+◌, ◌-◌, ◌%◌, ◌<◌, ◌==◌, ◌&&◌, ◌||◌, not, Bool, true, false, List, ◌∷◌}
use Rattle.std.proofs.Common.{length, Option, None, Some}
use Rattle.std.proofs.Common.{if◌then◌else◌, refl, ap, ◌∙◌, arith}
use Rattle.std.specs.Prelude.{Result, Ok, Err}
use Rattle.std.proofs.lemmas.Bool.Decides.{nat_tests}
use Rattle.core_1401.specs.Address.{addresses, effective_at}
use Rattle.core_1401.specs.Storage.{Storage, cell_at, is_in_core, with_mark}
use Rattle.devices_1401.specs.declared.card.Card.{Card}
use Rattle.devices_1401.specs.Devices.{no_cards}
use Rattle.fields_1401.specs.declared.done.Done.{Done}
use Rattle.core_1401.specs.Field.{field_len_of, pair_len_of}
use Rattle.fields_1401.specs.Compare.{comparison_at}
use Rattle.fields_1401.specs.declared.done.FieldStop.{FieldStop}
use Rattle.fields_1401.specs.declared.done.FieldStop.TheVariants.{Address}
use Rattle.fields_1401.specs.Load.{has_places, is_overwritten, load_at, load_by, loaded}
use Rattle.fields_1401.specs.Move.{move_at, move_by, moved}
use Rattle.fields_1401.specs.Marks.{clear_down_at, cleared, hundred_of, marks_at}
use Rattle.fields_1401.specs.Outcome.{below_by, registers_of}
use Rattle.cpu_1401.specs.Branch.{branch_if, branch_on, condition_of}
use Rattle.cpu_1401.specs.CardsAndPrinter.{read_area, unless_hindered, with_chars_from}
use Rattle.cpu_1401.specs.declared.condition.Condition.{Condition}
use Rattle.cpu_1401.specs.declared.condition.Condition.TheVariants.{Unequal}
use Rattle.cpu_1401.specs.declared.instruction.Instruction.{Instruction}
use Rattle.machine_tables.specs.declared.operation.Operation.{Operation}
use Rattle.machine_tables.specs.declared.operation.Operation.TheVariants as op
use Rattle.machine_tables.specs.declared.stop.Stop.TheVariants as stop
use Rattle.cpu_1401.specs.FieldStep.{after_clear, after_comparison, after_field}
use Rattle.cpu_1401.specs.Instruction.{begins_at, instruction_of, length_at}
use Rattle.machine_tables.specs.Operation.{form_of, has_length, is_unfitted_length, operation_of}
use Rattle.cpu_1401.specs.RegisterStep.{stored}
use Rattle.cpu_1401.specs.FittingLaw.{FittingLaw}
use Rattle.cpu_1401.specs.Run.{one_more, plain_run_for, run_on}
use Rattle.cpu_1401.specs.State.{State, power_on}
use Rattle.cpu_1401.specs.Step.{check_length, check_operation, perform, step}
use Rattle.cpu_1401.specs.Stepped.{Stepped, step_to, stopped}
use Rattle.machine_tables.specs.Features.{no_features}
use Rattle.autocoder_deck.specs.Loading.{Leads, all_carried_out}

-- the same of the steps of a machine without features
pub record LeadsPlainly (first last : State) : Type 0 where
  pub steps : ℕ
  pub a : ℕ
  pub b : ℕ
  pub run : plain_run_for steps first ≡ all_carried_out steps (record last { a = a; b = b })

-- with nothing fitted they are those of the machine
pub leads : FittingLaw → (first last : State) → first.features ≡ no_features → LeadsPlainly first last
    → Leads first last
leads law first last none plain = record {
  steps = plain.steps;
  a = plain.a;
  b = plain.b;
  run = law.plain_run plain.steps first none ∙ plain.run;
}

-- one step and those after it
pub one_step : (s t last : State) → step s ≡ step_to t → LeadsPlainly t last → LeadsPlainly s last
unfolding plain_run_for
one_step s t last e more = record {
  steps = suc more.steps;
  a = more.a;
  b = more.b;
  run =
      ap (λ (done : Stepped). run_on done (plain_run_for more.steps done.state)) e ∙ ap one_more more.run
      ∙ ap (λ (n : ℕ). all_carried_out n (record last { a = more.a; b = more.b })) (omega arith);
}

-- a machine with these cards in its hopper, this storage and these registers; the rest is as in another, but for its
-- overflow indicator, which is off
abbrev pub machine : State → List Card → Storage → ℕ → ℕ → ℕ → State
machine m hopper storage i a b = record m {
  storage = storage;
  i = i;
  a = a;
  b = b;
  overflow = false;
  devices = record no_cards { hopper = hopper };
}

-- from a place on, with all indicators off and whatever is in the A and B registers, steps lead to a state
abbrev pub Leaves : State → List Card → Storage → ℕ → Type 0
Leaves last hopper storage i = (a b : ℕ) → LeadsPlainly (machine (power_on 0) hopper storage i a b) last

-- an instruction of this operation and of this length begins at a place
pub record IsInstruction (storage : Storage) (at : ℕ) (operation : Operation) (len : ℕ) : Type 0 where
  pub begins : begins_at storage at ≡ true
  pub does : operation_of (cell_at storage at).char ≡ Some operation
  pub length : length_at storage operation at ≡ len

-- the step of an instruction with a length that its operation has
pub stepped : (s : State) (operation : Operation) (len : ℕ) → IsInstruction s.storage s.i operation len
    → is_unfitted_length operation len ≡ false → has_length operation len ≡ true
    → step s ≡ perform operation (instruction_of operation len s) s
unfolding step
stepped s operation len there fitted own =
    let char = (cell_at s.storage s.i).char in
    ap (λ (begins : Bool). if begins then check_operation (operation_of char) char s else stopped stop.NoMark s) there.begins
    ∙ ap (λ (o : Option Operation). check_operation o char s) there.does
    ∙ ap (λ (n : ℕ). check_length operation n s) there.length
    ∙ ap (λ (no : Bool). if no then stopped stop.NotFitted s else (
    if has_length operation len then perform operation (instruction_of operation len s) s else stopped stop.Length s)) fitted
    ∙ ap (λ (yes : Bool). if yes then perform operation (instruction_of operation len s) s else stopped stop.Length s) own

pub both_true : (p q : Bool) → p ≡ true → q ≡ true → (p && q) ≡ true
both_true p q e f = rw (e, f) refl

pub is_there : (storage : Storage) (at : ℕ) → at < length storage → is_in_core storage at ≡ true
is_there storage at lt = grind (arith, nat_tests)

-- what an instruction with one address says
abbrev pub one_address : Operation → ℕ → State → Instruction
one_address operation x s = record {
  len = 4;
  a = x;
  b = if (form_of operation).loads_both then x else s.b;
  d = (cell_at s.storage (s.i + 4 - 1)).char;
  next = (s.i + 4) % addresses;
}

one_read : (s : State) (operation : Operation) (x : ℕ) → effective_at s.storage (s.i + 1) ≡ x
    → instruction_of operation 4 s ≡ one_address operation x s
one_read s operation x e = ap (λ (k : ℕ). one_address operation k s) e

-- what an instruction with two addresses says
abbrev pub two_addresses : ℕ → ℕ → State → Instruction
two_addresses x y s = record {
  len = 7;
  a = x;
  b = y;
  d = (cell_at s.storage (s.i + 7 - 1)).char;
  next = (s.i + 7) % addresses;
}

two_read : (s : State) (does : Operation) (x y : ℕ) → effective_at s.storage (s.i + 1) ≡ x
    → effective_at s.storage (s.i + 4) ≡ y → instruction_of does 7 s ≡ two_addresses x y s
two_read s does x y e f =
    ap (λ (k : ℕ). two_addresses k (effective_at s.storage (s.i + 4)) s) e ∙ ap (λ (k : ℕ). two_addresses x k s) f

-- what a step of fields leaves: this storage, and the registers, with no indicator turned on
abbrev pub with_field : State → Storage → ℕ → Done → State
with_field s storage i done = record s {
  storage = storage;
  i = i;
  a = done.a;
  b = done.b;
  overflow = s.overflow || false;
}

-- word marks set or cleared
marked : (s : State) (this : Instruction) (mark : Bool) → is_in_core s.storage this.a ≡ true
    → is_in_core s.storage this.b ≡ true
    → after_field this s (marks_at s.storage this.a this.b mark) ≡ step_to
    (with_field s (with_mark (with_mark s.storage this.a mark) this.b mark) this.next
    (registers_of (below_by this.a 1) (below_by this.b 1)))
marked s this mark e f =
    ap (λ (both : Bool). after_field this s (if both then Ok (
      with_mark (with_mark s.storage this.a mark) this.b mark,
      registers_of (below_by this.a 1) (below_by this.b 1),
    ) else Err Address)) (both_true (is_in_core s.storage this.a) (is_in_core s.storage this.b) e f)

pub set_two_step : (s : State) (x y : ℕ) → IsInstruction s.storage s.i op.SetWordMark 7
    → effective_at s.storage (s.i + 1) ≡ x → effective_at s.storage (s.i + 4) ≡ y → x < length s.storage
    → y < length s.storage → step s ≡ step_to (with_field s (with_mark (with_mark s.storage x true) y true)
    ((s.i + 7) % addresses) (registers_of (below_by x 1) (below_by y 1)))
set_two_step s x y there e f x_in y_in =
    stepped s op.SetWordMark 7 there refl refl
    ∙ ap (λ (this : Instruction). perform op.SetWordMark this s) (two_read s op.SetWordMark x y e f)
    ∙ marked s (two_addresses x y s) true (is_there s.storage x x_in) (is_there s.storage y y_in)

pub clear_two_step : (s : State) (x y : ℕ) → IsInstruction s.storage s.i op.ClearWordMark 7
    → effective_at s.storage (s.i + 1) ≡ x → effective_at s.storage (s.i + 4) ≡ y → x < length s.storage
    → y < length s.storage → step s ≡ step_to (with_field s (with_mark (with_mark s.storage x false) y false)
    ((s.i + 7) % addresses) (registers_of (below_by x 1) (below_by y 1)))
clear_two_step s x y there e f x_in y_in =
    stepped s op.ClearWordMark 7 there refl refl
    ∙ ap (λ (this : Instruction). perform op.ClearWordMark this s) (two_read s op.ClearWordMark x y e f)
    ∙ marked s (two_addresses x y s) false (is_there s.storage x x_in) (is_there s.storage y y_in)

pub set_one_step : (s : State) (x : ℕ) → IsInstruction s.storage s.i op.SetWordMark 4
    → effective_at s.storage (s.i + 1) ≡ x → x < length s.storage
    → step s ≡ step_to (with_field s (with_mark (with_mark s.storage x true) x true) ((s.i + 4) % addresses)
    (registers_of (below_by x 1) (below_by x 1)))
set_one_step s x there e x_in =
    stepped s op.SetWordMark 4 there refl refl
    ∙ ap (λ (this : Instruction). perform op.SetWordMark this s) (one_read s op.SetWordMark x e)
    ∙ marked s (one_address op.SetWordMark x s) true (is_there s.storage x x_in) (is_there s.storage x x_in)

pub clear_one_step : (s : State) (x : ℕ) → IsInstruction s.storage s.i op.ClearWordMark 4
    → effective_at s.storage (s.i + 1) ≡ x → x < length s.storage
    → step s ≡ step_to (with_field s (with_mark (with_mark s.storage x false) x false) ((s.i + 4) % addresses)
    (registers_of (below_by x 1) (below_by x 1)))
clear_one_step s x there e x_in =
    stepped s op.ClearWordMark 4 there refl refl
    ∙ ap (λ (this : Instruction). perform op.ClearWordMark this s) (one_read s op.ClearWordMark x e)
    ∙ marked s (one_address op.ClearWordMark x s) false (is_there s.storage x x_in) (is_there s.storage x x_in)

-- storage cleared from a place down to its hundred
abbrev pub cleared_down : Storage → ℕ → Storage
cleared_down storage x = cleared storage x (x + 1 - hundred_of x)

blanked : (s : State) (this : Instruction) → is_in_core s.storage this.b ≡ true
    → after_clear this s (clear_down_at s.storage this.b) ≡ after_clear this s
    (Ok (cleared_down s.storage this.b, registers_of this.b (below_by (hundred_of this.b) 1)))
blanked s this e =
    ap (λ (there : Bool). after_clear this s (if there then Ok (
      cleared_down s.storage this.b,
      registers_of this.b (below_by (hundred_of this.b) 1),
    ) else Err Address)) e

pub clear_step : (s : State) (x : ℕ) → IsInstruction s.storage s.i op.ClearStorage 4
    → effective_at s.storage (s.i + 1) ≡ x → x < length s.storage
    → step s ≡ step_to (record s {
      storage = cleared_down s.storage x;
      i = (s.i + 4) % addresses;
      a = x;
      b = below_by (hundred_of x) 1;
    })
clear_step s x there e x_in =
    stepped s op.ClearStorage 4 there refl refl
    ∙ ap (λ (this : Instruction). perform op.ClearStorage this s) (one_read s op.ClearStorage x e)
    ∙ blanked s (one_address op.ClearStorage x s) (is_there s.storage x x_in)

pub clear_and_branch_step : (s : State) (x y : ℕ) → IsInstruction s.storage s.i op.ClearStorage 7
    → effective_at s.storage (s.i + 1) ≡ x → effective_at s.storage (s.i + 4) ≡ y → y < length s.storage
    → step s ≡ step_to (record s {
      storage = cleared_down s.storage y;
      i = x;
      a = x;
      b = (s.i + 7) % addresses;
    })
clear_and_branch_step s x y there e f y_in =
    stepped s op.ClearStorage 7 there refl refl
    ∙ ap (λ (this : Instruction). perform op.ClearStorage this s) (two_read s op.ClearStorage x y e f)
    ∙ blanked s (two_addresses x y s) (is_there s.storage y y_in)

pub store_step : (s : State) (x : ℕ) → IsInstruction s.storage s.i op.StoreB 4
    → effective_at s.storage (s.i + 1) ≡ x → has_places s.storage x 3 ≡ true
    → step s ≡ step_to (record s {
      storage = stored s.storage x s.b;
      i = (s.i + 4) % addresses;
      a = below_by x 3;
    })
store_step s x there e places =
    stepped s op.StoreB 4 there refl refl
    ∙ ap (λ (this : Instruction). perform op.StoreB this s) (one_read s op.StoreB x e)
    ∙ ap (λ (yes : Bool). if yes then step_to (record s {
      storage = stored s.storage x s.b;
      i = (s.i + 4) % addresses;
      a = below_by x 3;
    }) else stopped stop.Address s) places

pub compare_step : (s : State) (x y : ℕ) (outcome : Result Done FieldStop)
    → IsInstruction s.storage s.i op.Compare 7 → effective_at s.storage (s.i + 1) ≡ x
    → effective_at s.storage (s.i + 4) ≡ y → comparison_at s.storage x y ≡ outcome
    → step s ≡ after_comparison (two_addresses x y s) s outcome
compare_step s x y outcome there e f result =
    stepped s op.Compare 7 there refl refl
    ∙ ap (λ (this : Instruction). perform op.Compare this s) (two_read s op.Compare x y e f)
    ∙ ap (λ (o : Result Done FieldStop). after_comparison (two_addresses x y s) s o) result

-- a branch by the unequal indicator
abbrev pub if_unequal : ℕ → State → Instruction
if_unequal x s = record {
  len = 5;
  a = x;
  b = s.b;
  d = (cell_at s.storage (s.i + 5 - 1)).char;
  next = (s.i + 5) % addresses;
}

pub unequal_read : (s : State) (x : ℕ) (unequal : Bool) → IsInstruction s.storage s.i op.Branch 5
    → effective_at s.storage (s.i + 1) ≡ x
    → condition_of (cell_at s.storage (s.i + 5 - 1)).char ≡ Some Unequal → s.unequal ≡ unequal
    → step s ≡ step_to (branch_if unequal s.b (if_unequal x s) s)
unequal_read s x unequal there e looked so =
    stepped s op.Branch 5 there refl refl
    ∙ ap (λ (k : ℕ). perform op.Branch (if_unequal k s) s) e
    ∙ ap (λ (c : Option Condition). step_to (branch_on c (if_unequal x s) s)) looked
    ∙ ap (λ (u : Bool). step_to (branch_if u s.b (if_unequal x s) s)) so

pub none_there : (n : ℕ) → (suc n == 0) ≡ false
none_there n = grind (arith, nat_tests)

-- a card read, and a branch
pub read_step : (m : State) (card : Card) (more : List Card) (storage : Storage) (i a b x : ℕ)
    → IsInstruction storage i op.ReadCard 4 → effective_at storage (i + 1) ≡ x
    → step (machine m (card ∷ more) storage i a b) ≡ step_to
    (machine m more (with_chars_from storage read_area card.0) x x ((i + 4) % addresses))
read_step m card more storage i a b x there e =
    let s = machine m (card ∷ more) storage i a b in
    let this = one_address op.ReadCard x s in
    stepped s op.ReadCard 4 there refl refl
    ∙ ap (λ (this : Instruction). perform op.ReadCard this s) (one_read s op.ReadCard x e)
    ∙ ap (λ (none : Bool). unless_hindered (if none then Some stop.Reader else None) s
    (machine m more (with_chars_from storage read_area card.0) x x ((i + 4) % addresses))) (none_there (length more))

-- fields loaded and moved
pub load_step : (s : State) (x y n : ℕ) → IsInstruction s.storage s.i op.Load 7 → effective_at s.storage (s.i + 1) ≡ x
    → effective_at s.storage (s.i + 4) ≡ y → field_len_of s.storage x ≡ Some n
    → (has_places s.storage y n && not (is_overwritten x y n)) ≡ true
    → step s ≡ step_to (with_field s (loaded s.storage x y n) ((s.i + 7) % addresses)
    (registers_of (below_by x n) (below_by y n)))
unfolding load_at
load_step s x y n there e f field places =
    stepped s op.Load 7 there refl refl
    ∙ ap (λ (this : Instruction). perform op.Load this s) (two_read s op.Load x y e f)
    ∙ ap (λ (len : Option ℕ). after_field (two_addresses x y s) s (load_by s.storage x y len)) field
    ∙ ap (λ (yes : Bool). after_field (two_addresses x y s) s (if yes then Ok (
      loaded s.storage x y n,
      registers_of (below_by x n) (below_by y n),
    ) else Err Address)) places

pub move_step : (s : State) (x y n : ℕ) → IsInstruction s.storage s.i op.Move 7 → effective_at s.storage (s.i + 1) ≡ x
    → effective_at s.storage (s.i + 4) ≡ y → pair_len_of s.storage x y ≡ Some n
    → step s ≡ step_to (with_field s (moved s.storage x y n) ((s.i + 7) % addresses)
    (registers_of (below_by x n) (below_by y n)))
unfolding move_at
move_step s x y n there e f field =
    stepped s op.Move 7 there refl refl
    ∙ ap (λ (this : Instruction). perform op.Move this s) (two_read s op.Move x y e f)
    ∙ ap (λ (len : Option ℕ). after_field (two_addresses x y s) s (move_by s.storage x y len)) field
