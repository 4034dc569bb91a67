-- The tape instruction at the I register, and the machine without reels, which it stops.
use Rattle.std.proofs.Common.{◌≡◌, ℕ, ◌+◌, ◌<◌, ◌≤◌, ◌==◌, ◌||◌, Bool, true, false, List, [], cond, length}
use Rattle.std.proofs.Common.{Option, None, Some, refl, sym, ◌∙◌, ap, arith, length-drop, take, drop, ◌-◌, ◌&&◌, not}
use Rattle.std.specs.Prelude.{if◌then◌else◌, is_some, nat_le, option_map, slice_index}
use Rattle.std.proofs.lemmas.Bool.{and_parts, eqb-true, false≢true, leb-true, ltb-true}
use Rattle.std.proofs.lemmas.List.{length-take-le}
use Rattle.std.proofs.lemmas.List.Sums.{prefix_len-le-length}
use Rattle.bcd_1401.specs.declared.cell.Cell.{Cell}
use Rattle.bcd_1401.specs.Graphic.{graphics}
use Rattle.core_1401.specs.Storage.{Storage, cell_at, is_in_core}
use Rattle.machine_tables.specs.Rows.{meaning_in}
use Rattle.machine_tables.specs.declared.fitted.Fitted.{Fitted}
use Rattle.machine_tables.specs.declared.fitted.Fitted.TheVariants as fitted
use Rattle.machine_tables.specs.Fitted.{fitted_in}
use Rattle.machine_tables.specs.declared.features.Features.{Features}
use Rattle.machine_tables.specs.declared.stop.Stop.{Stop}
use Rattle.machine_tables.specs.declared.stop.Stop.TheVariants.{Tape}
use Rattle.cpu_1401.specs.Fetched.{cells_at, instruction_at, next_instruction}
use Rattle.cpu_1401.specs.Fitting.{fitted_at, fitted_instruction, fitted_step, perform_fitted}
use Rattle.cpu_1401.specs.Instruction.{begins_at}
use Rattle.cpu_1401.specs.State.{State}
use Rattle.cpu_1401.specs.Stepped.{Stepped, stopped}
use Rattle.cpu_1401.specs.Tape.{control_letters, graphic_at, is_letter, tape_stop_by, transfer_letters, unit_at}
use Rattle.machine_tables.specs.TapeUnit.{unit_named}
use Rattle.cpu_1401.specs.declared.instruction.Instruction.{Instruction}
use Rattle.machine_tables.specs.declared.tape_unit.TapeUnit.{TapeUnit}
use Rattle.cpu_1401.proofs.FittingLemmas.{claimed_step}
use Rattle.machine_tapes.specs.Instruction.{asking, asking_as, controls, tape_instruction, transfers, work_of}
use Rattle.machine_tapes.specs.TapedStep.{branch_graphic, file_graphic, graphic_in, is_file_branch}
use Rattle.machine_tapes.specs.declared.work.TapeInstruction.{TapeInstruction}
use Rattle.machine_tapes.specs.declared.work.TapeMode.{TapeMode}
use Rattle.machine_tapes.specs.declared.work.TapeMode.TheVariants.{Move, Load}
use Rattle.machine_tapes.specs.declared.work.TapeWork.{TapeWork}

-- one of two letters, and one of five
abbrev second_of : {A : Type 0} → Option (ℕ × A) → Option A
second_of {A} found = option_map (λ (entry : ℕ × A). entry.1) found

one_of_two : {A : Type 0} (p q : Bool) (x y : ℕ × A)
    → is_some (second_of (cond p (Some x) (cond q (Some y) None))) ≡ (p || (q || false))
one_of_two true q x y = refl
one_of_two false true x y = refl
one_of_two false false x y = refl

one_of_five : {A : Type 0} (p q r s t : Bool) (v w x y z : ℕ × A)
    → is_some (second_of (cond p (Some v) (cond q (Some w) (cond r (Some x) (cond s (Some y) (cond t (Some z) None))))))
    ≡ (p || (q || (r || (s || (t || false)))))
one_of_five true q r s t v w x y z = refl
one_of_five false true r s t v w x y z = refl
one_of_five false false true s t v w x y z = refl
one_of_five false false false true t v w x y z = refl
one_of_five false false false false true v w x y z = refl
one_of_five false false false false false v w x y z = refl

-- the tables have the letters that the machine knows
transfer_known : (how : TapeMode) (d : ℕ)
    → is_some (meaning_in (transfers how) (slice_index graphics d)) ≡ is_letter d transfer_letters
transfer_known how d = let g = slice_index graphics d in one_of_two (82 == g) (87 == g) _ _

control_known : (d : ℕ) → is_some (meaning_in controls (slice_index graphics d)) ≡ is_letter d control_letters
control_known d =
    let g = slice_index graphics d in one_of_five (66 == g) (69 == g) (77 == g) (82 == g) (85 == g) _ _ _ _ _

-- an instruction that asks for nothing is no tape instruction
asks_nothing : (unit : Option TapeUnit) (this : Instruction) (that : TapeInstruction) → asking unit None this ≡ Some that
    → (x y : Stepped) → x ≡ y
asks_nothing None this that e x y = cc
asks_nothing (Some unit) this that e x y = cc

-- a tape instruction stops a machine without reels
stops_by : (unit : Option TapeUnit) (work : Option TapeWork) (this : Instruction) (that : TapeInstruction) (known : Bool)
    → asking unit work this ≡ Some that → is_some work ≡ known → tape_stop_by unit known ≡ Tape
stops_by None work this that known e is = cc
stops_by (Some unit) None this that known e is = cc
stops_by (Some unit) (Some work) this that true e is = refl
stops_by (Some unit) (Some work) this that false e is = cc

made_stops : (made : Fitted) (this : Instruction) (s : State) (that : TapeInstruction)
    → asking (unit_at s.storage (s.i + 1)) (work_of made this.d) this ≡ Some that
    → perform_fitted made this s ≡ stopped Tape s
made_stops fitted.OnCell this s that e = asks_nothing (unit_at s.storage (s.i + 1)) this that e _ _
made_stops fitted.OnBits this s that e = asks_nothing (unit_at s.storage (s.i + 1)) this that e _ _
made_stops fitted.CharacterAgain this s that e = asks_nothing (unit_at s.storage (s.i + 1)) this that e _ _
made_stops fitted.CellAgain this s that e = asks_nothing (unit_at s.storage (s.i + 1)) this that e _ _
made_stops fitted.BitsAgain this s that e = asks_nothing (unit_at s.storage (s.i + 1)) this that e _ _
made_stops fitted.StoreA this s that e = asks_nothing (unit_at s.storage (s.i + 1)) this that e _ _
made_stops fitted.StoreB this s that e = asks_nothing (unit_at s.storage (s.i + 1)) this that e _ _
made_stops fitted.StoreSecond this s that e = asks_nothing (unit_at s.storage (s.i + 1)) this that e _ _
made_stops fitted.Halt this s that e = asks_nothing (unit_at s.storage (s.i + 1)) this that e _ _
made_stops fitted.Feed this s that e = asks_nothing (unit_at s.storage (s.i + 1)) this that e _ _
made_stops fitted.Multiply this s that e = asks_nothing (unit_at s.storage (s.i + 1)) this that e _ _
made_stops fitted.Divide this s that e = asks_nothing (unit_at s.storage (s.i + 1)) this that e _ _
made_stops fitted.MoveRecord this s that e = asks_nothing (unit_at s.storage (s.i + 1)) this that e _ _
made_stops fitted.ModifyAddress this s that e = asks_nothing (unit_at s.storage (s.i + 1)) this that e _ _
made_stops fitted.MoveTape this s that e =
    ap (λ (why : Stop). stopped why s)
    (stops_by (unit_at s.storage (s.i + 1)) (work_of fitted.MoveTape this.d) this that (is_letter this.d transfer_letters) e
    (transfer_known Move this.d))
made_stops fitted.LoadTape this s that e =
    ap (λ (why : Stop). stopped why s)
    (stops_by (unit_at s.storage (s.i + 1)) (work_of fitted.LoadTape this.d) this that (is_letter this.d transfer_letters) e
    (transfer_known Load this.d))
made_stops fitted.ControlTape this s that e =
    ap (λ (why : Stop). stopped why s)
    (stops_by (unit_at s.storage (s.i + 1)) (work_of fitted.ControlTape this.d) this that (is_letter this.d control_letters)
    e (control_known this.d))
made_stops fitted.NoLength this s that e = asks_nothing (unit_at s.storage (s.i + 1)) this that e _ _

pub tape_stops : (s : State) (that : TapeInstruction) → tape_instruction s ≡ Some that → fitted_step s ≡ stopped Tape s
unfolding tape_instruction
tape_stops s that e = by (fitted_at s) refl e
  where
    by : (found : Option Fitted) → fitted_at s ≡ found → asking_as found s ≡ Some that → fitted_step s ≡ stopped Tape s
    by None is asks = cc
    by (Some made) is asks = claimed_step s made is ∙ made_stops made (fitted_instruction s) s that asks

-- the cells of an instruction that begins at a place are as many as are looked at, and all are in core
pub cells_len : (s : Storage) (at : ℕ) → begins_at s at ≡ true
    → (length (instruction_at s at) ≡ cells_at s at) × (at + cells_at s at ≤ length s)
unfolding instruction_at
cells_len s at begins =
    let in_core = (and_parts (is_in_core s at) (cell_at s at).mark begins).0 in
    let inside : at < length s = ltb-true at (length s) in_core in
    let next = prefix_len-le-length (λ (cell : Cell). not cell.mark) (drop (at + 1) s) in
    let few : at + cells_at s at ≤ length s = omega (arith, next, length-drop (at + 1) s, inside) in (
      ap (λ (b : Bool). length (if b then take (cells_at s at) (drop at s) else [])) in_core
          ∙ length-take-le (cells_at s at) (drop at s) (omega (arith, length-drop at s, few)),
      few,
    )

-- what a feature makes of it, by its parts
pub fitted_at_is : (s : State) (features : Features) (graphic len : ℕ) (found : Option Fitted)
    → begins_at s.storage s.i ≡ true → features ≡ s.features
    → graphic ≡ slice_index graphics (cell_at s.storage s.i).char → len ≡ cells_at s.storage s.i
    → found ≡ fitted_in features graphic len → fitted_at s ≡ found
fitted_at_is s features graphic len found begins are first few e =
    ap (λ (b : Bool). if b then fitted_in s.features (slice_index graphics (cell_at s.storage s.i).char)
    (cells_at s.storage s.i) else None) begins
    ∙ ap (fitted_in s.features (slice_index graphics (cell_at s.storage s.i).char)) (sym few)
    ∙ ap (λ g. fitted_in s.features g len) (sym first)
    ∙ ap (λ (f : Features). fitted_in f graphic len) (sym are)
    ∙ sym e

-- a unit is one of six
named_range : (first second third : ℕ) (unit : TapeUnit) → unit_named first second third ≡ Some unit
    → (1 ≤ unit.number) × (unit.number ≤ 6)
named_range first second third unit e =
    let known : Bool = (first == 37) && ((second == 85) || (second == 66)) && nat_le 49 third && nat_le third 54 in
    by known refl e
  where
    by : (b : Bool) → ((first == 37) && ((second == 85) || (second == 66)) && nat_le 49 third && nat_le third 54) ≡ b
        → (if b then Some (record { number = third - 48; is_odd = second == 66 }) else None) ≡ Some unit
        → (1 ≤ unit.number) × (unit.number ≤ 6)
    by true is e =
        let low = and_parts ((first == 37) && ((second == 85) || (second == 66)) && nat_le 49 third) (nat_le third 54) is in
        let high = and_parts ((first == 37) && ((second == 85) || (second == 66))) (nat_le 49 third) low.0 in
        let most : third ≤ 54 = leb-true third 54 low.1 in
        let least : 49 ≤ third = leb-true 49 third high.1 in
        let made : TapeUnit = record { number = third - 48; is_odd = second == 66 } in
        let same : made ≡ unit = cc in
        let number : third - 48 ≡ unit.number = ap (λ (u : TapeUnit). u.number) same in
        (omega (arith, number, least), omega (arith, number, most))
    by false is e = cc

pub unit_range : (s : Storage) (at : ℕ) (unit : TapeUnit) → unit_at s at ≡ Some unit
    → (1 ≤ unit.number) × (unit.number ≤ 6)
unit_range s at unit e = by (nat_le (at + 3) (length s)) e
  where
    by : (b : Bool)
        → (if b then unit_named (graphic_at s at) (graphic_at s (at + 1)) (graphic_at s (at + 2)) else None) ≡ Some unit
        → (1 ≤ unit.number) × (unit.number ≤ 6)
    by true e = named_range (graphic_at s at) (graphic_at s (at + 1)) (graphic_at s (at + 2)) unit e
    by false e = cc

-- a branch that is taken if a file has ended is in core
pub file_branch_inside : (s : State) → is_file_branch (next_instruction s) ≡ true → s.i + 5 ≤ length s.storage
file_branch_inside s e = by (begins_at s.storage s.i) refl e
  where
    by : (b : Bool) → begins_at s.storage s.i ≡ b
        → is_file_branch (if b then Some (instruction_at s.storage s.i) else None) ≡ true → s.i + 5 ≤ length s.storage
    by true begins e =
        let cells : List Cell = instruction_at s.storage s.i in
        let known = cells_len s.storage s.i begins in
        let first = and_parts ((length cells == 5) && (graphic_in cells 0 == branch_graphic))
        (graphic_in cells 4 == file_graphic) e in
        let five = eqb-true (length cells) 5
        (and_parts (length cells == 5) (graphic_in cells 0 == branch_graphic) first.0).0 in
        omega (arith, known.0, known.1, five)
    by false begins e = absurd (false≢true e)
