-- What the cells of an instruction that a feature claims say, wherever they are, and what a step then is.
use Rattle.std.proofs.Common.{◌≡◌, ℕ, ◌+◌, ◌-◌, ◌%◌, ◌<◌, ◌≤◌, Bool, length, List, None, Some, true}
use Rattle.std.proofs.Common.{arith, refl, sym, ◌∙◌, ap, subst, get_or, replicate, set, inl, inr, if◌then◌else◌}
use Rattle.std.proofs.lemmas.Bool.{and_from, cases_lt, le-leb, lt-leb, lt-ltb}
use Rattle.std.proofs.lemmas.List.Elements.{All-get_or, All-replicate, All-set}
use Rattle.std.specs.Prelude.{slice_index}
use Rattle.bcd_1401.specs.Graphic.{graphics}
use Rattle.bcd_1401.specs.declared.cell.Cell.{Cell}
use Rattle.core_1401.specs.Address.{addresses, indexed_by}
use Rattle.core_1401.specs.EightCells.{AreEightCells}
use Rattle.core_1401.specs.Storage.{Storage, cell_at, is_in_core}
use Rattle.machine_tables.specs.Operation.{operation_of}
use Rattle.machine_tables.specs.Fitted.{fitted_in}
use Rattle.machine_tables.specs.declared.fitted.Fitted.{Fitted}
use Rattle.machine_tables.specs.declared.fitted.Fitted.TheVariants.{OnCell}
use Rattle.machine_tables.specs.declared.features.Features.{Features}
use Rattle.machine_tables.specs.declared.stop.Stop.{Stop}
use Rattle.cpu_1401.specs.DecodedFitted.{AlwaysSayFitted, AreSaying, IsSaying, SaysFitted}
use Rattle.cpu_1401.specs.Fetched.{cells_at, longest_of}
use Rattle.cpu_1401.specs.Fitting.{fitted_at, fitted_instruction, fitted_step, perform_fitted}
use Rattle.cpu_1401.specs.State.{State}
use Rattle.cpu_1401.specs.Step.{step}
use Rattle.cpu_1401.specs.Stepped.{Stepped, stopped}
use Rattle.cpu_1401.specs.declared.decoded_fitted.DecodedFitted.{DecodedFitted}
use Rattle.cpu_1401.specs.declared.fitted_entry.FittedEntry.{FittedEntry}
use Rattle.cpu_1401.specs.declared.instruction.Instruction.{Instruction}
use Rattle.cpu_1401.proofs.DecodedLemmas.{Alike, effective_is, plain, same_address, same_at, same_cells, same_next}
use Rattle.cpu_1401.proofs.FittingLemmas.{claimed_step, refused_keeps_nothing, unclaimed_step}

-- how many cells it has is said by eight of them
same_count : (s t : Storage) (at to : ℕ) → Alike s t at to → cell_at s at ≡ cell_at t to
    → cell_at s (at + 4) ≡ cell_at t (to + 4)
    → longest_of (operation_of (cell_at s at).char) (cell_at s (at + 4)).char ≤ 8 → cells_at s at ≡ cells_at t to
same_count s t at to alike first fifth near =
    let longest : longest_of (operation_of (cell_at s at).char) (cell_at s (at + 4)).char
    ≡ longest_of (operation_of (cell_at t to).char) (cell_at t (to + 4)).char =
    ap (λ (cell : Cell). longest_of (operation_of cell.char) (cell_at s (at + 4)).char) first
    ∙ ap (λ (cell : Cell). longest_of (operation_of (cell_at t to).char) cell.char) fifth in
    omega (arith, same_next s t at to alike, longest, near)

-- what eight cells say at one place they say at another
says_again : (s t : Storage) (at to : ℕ) (features : Features) (this : DecodedFitted) → Alike s t at to
    → SaysFitted s at features this → SaysFitted t to features this
says_again s t at to features this alike says =
    let none_at : at ≡ at + 0 = omega arith in
    let none_to : to ≡ to + 0 = omega arith in
    let first : cell_at s at ≡ cell_at t to = same_at s t at to 0 at to alike (omega arith) none_at none_to in
    let fifth : cell_at s (at + 4) ≡ cell_at t (to + 4) = alike.cells 4 (omega arith) in
    let last : cell_at s (at + this.len - 1) ≡ cell_at t (to + this.len - 1) =
    same_at s t at to (this.len - 1) (at + this.len - 1) (to + this.len - 1) alike
    (omega (arith, this.some, this.most)) (omega (arith, this.some)) (omega (arith, this.some)) in
    record {
      mark = ap (λ (cell : Cell). cell.mark) (sym first) ∙ says.mark;
      near = subst (λ (cell : Cell). longest_of (operation_of cell.char) (cell_at t (to + 4)).char ≤ 8) first
          (subst (λ (cell : Cell). longest_of (operation_of (cell_at s at).char) cell.char ≤ 8) fifth says.near);
      len = sym (same_count s t at to alike first fifth says.near) ∙ says.len;
      inside = omega (arith, alike.t_inside, this.most);
      fitted = ap (λ (cell : Cell). fitted_in features (slice_index graphics cell.char) this.len) (sym first)
          ∙ says.fitted;
      d = ap (λ (cell : Cell). cell.char) (sym last) ∙ says.d;
      a = λ h. same_address s t at to 1 this.a alike (omega arith) (says.a h);
      b = λ h. same_address s t at to 4 this.b alike (omega arith) (says.b h);
      only = λ h less. same_address s t at to 1 this.b alike (omega arith) (says.only h less);
    }

-- so what is kept says it always
pub always_say_fitted : (s : Storage) (at codes marks : ℕ) (features : Features) (this : DecodedFitted)
    → at + 8 ≤ length s → AreEightCells s at codes marks → SaysFitted s at features this
    → AlwaysSayFitted codes marks features this
always_say_fitted s at codes marks features this inside are says =
    λ t to t_inside t_are.
    says_again s t at to features this (same_cells s t at to codes marks inside t_inside are t_are) says

-- entries that say nothing, an entry put in the place of another, and one of them
pub each_says : (features : Features) (n : ℕ) (entry : FittedEntry) → IsSaying features entry
    → AreSaying features (replicate n entry)
each_says features n entry says = All-replicate (IsSaying features) n entry says

pub one_more_says : (features : Features) (entries : List FittedEntry) (i : ℕ) (entry : FittedEntry)
    → IsSaying features entry → AreSaying features entries → AreSaying features (set entries i entry)
one_more_says features entries i entry says all = All-set (IsSaying features) entries i entry says all

pub entry_says : (features : Features) (entries : List FittedEntry) (i : ℕ) (entry : FittedEntry) → i < length entries
    → AreSaying features entries → IsSaying features (get_or entries i entry)
entry_says features entries i entry inside all = All-get_or (IsSaying features) entries i entry inside all

-- an instruction that cells say a feature claims is claimed
claimed_at : (s : State) (this : DecodedFitted) → SaysFitted s.storage s.i s.features this
    → fitted_at s ≡ Some this.fitted
claimed_at s this says =
    let graphic : ℕ = slice_index graphics (cell_at s.storage s.i).char in
    let in_core : s.i < length s.storage = omega (arith, says.inside, this.some) in
    ap (λ (yes : Bool). if yes then fitted_in s.features graphic (cells_at s.storage s.i) else None)
    (and_from (is_in_core s.storage s.i) (cell_at s.storage s.i).mark (lt-ltb s.i (length s.storage) in_core) says.mark)
    ∙ ap (fitted_in s.features graphic) says.len ∙ says.fitted

-- and the step is what the feature makes of it
pub says_fitted_step : (s : State) (this : DecodedFitted) → SaysFitted s.storage s.i s.features this
    → fitted_step s ≡ perform_fitted this.fitted (fitted_instruction s) s
says_fitted_step s this says = claimed_step s this.fitted (claimed_at s this says)

-- so it is with the instruction that was made for it
pub made_fitted_step : (s : State) (this : DecodedFitted) (fitted : Fitted) (made : Instruction)
    → SaysFitted s.storage s.i s.features this → this.fitted ≡ fitted → made ≡ fitted_instruction s
    → perform_fitted fitted made s ≡ fitted_step s
made_fitted_step s this fitted made says is is_own =
    ap (λ (own : Instruction). perform_fitted fitted own s) is_own
    ∙ ap (λ (does : Fitted). perform_fitted does (fitted_instruction s) s) (sym is)
    ∙ sym (says_fitted_step s this says)

-- a branch that is left as it is, is refused as without features, and so is what none claims
pub left_refused : (s : State) (this : DecodedFitted) (why : Stop) → SaysFitted s.storage s.i s.features this
    → this.fitted ≡ OnCell → step s ≡ stopped why s → fitted_step s ≡ stopped why s
left_refused s this why says left refused =
    claimed_step s OnCell (claimed_at s this says ∙ ap (λ (made : Fitted). Some made) left)
    ∙ refused_keeps_nothing (fitted_instruction s).d (step s) why (ap (λ (t : Stepped). t.stop) refused)
    ∙ refused

pub unclaimed_refused : (s : State) (why : Stop) → fitted_at s ≡ None → step s ≡ stopped why s
    → fitted_step s ≡ stopped why s
unclaimed_refused s why none refused = unclaimed_step s none ∙ refused

-- its addresses
pub fitted_a : (s : State) (this : DecodedFitted) → SaysFitted s.storage s.i s.features this → 4 ≤ this.len
    → indexed_by s.storage this.a.value this.a.register ≡ (fitted_instruction s).a
fitted_a s this says h = rw (says.len, le-leb 4 this.len h) (effective_is s.storage (s.i + 1) this.a (says.a h))

pub fitted_b : (s : State) (this : DecodedFitted) → SaysFitted s.storage s.i s.features this → 4 ≤ this.len
    → indexed_by s.storage this.b.value this.b.register ≡ (fitted_instruction s).b
fitted_b s this says h =
    elim (cases_lt this.len 7) [
      | inl less ↦ rw (says.len, lt-leb 7 this.len less, le-leb 4 this.len h)
          (effective_is s.storage (s.i + 1) this.b (says.only h less))
      | inr two ↦ rw (says.len, le-leb 7 this.len two) (effective_is s.storage (s.i + 4) this.b (says.b two))
    ]

-- those that are ready are as they are spelled
pub ready_first : (s : State) (this : DecodedFitted) → SaysFitted s.storage s.i s.features this → this.is_ready ≡ true
    → this.a.value ≡ (fitted_instruction s).a
ready_first s this says ready =
    plain s.storage this.a.value this.a.register (this.ready_a ready) ∙ fitted_a s this says (this.ready_len ready)

pub ready_second : (s : State) (this : DecodedFitted) → SaysFitted s.storage s.i s.features this → this.is_ready ≡ true
    → this.b.value ≡ (fitted_instruction s).b
ready_second s this says ready =
    plain s.storage this.b.value this.b.register (this.ready_b ready) ∙ fitted_b s this says (this.ready_len ready)

-- without one it takes the registers as they stand
pub fitted_registers : (s : State) (this : DecodedFitted) → SaysFitted s.storage s.i s.features this → this.len < 4
    → (s.a ≡ (fitted_instruction s).a) × (s.b ≡ (fitted_instruction s).b)
fitted_registers s this says less = (
  rw (says.len, lt-leb 4 this.len less) refl,
  rw (says.len, lt-leb 7 this.len (omega (arith, less)), lt-leb 4 this.len less) refl,
)

-- the instruction of its parts
pub fitted_parts : (s : State) (this : DecodedFitted) (a b next : ℕ) → SaysFitted s.storage s.i s.features this
    → a ≡ (fitted_instruction s).a → b ≡ (fitted_instruction s).b → next ≡ (s.i + this.len) % addresses
    → record { len = this.len; a = a; b = b; next = next; d = this.d } ≡ fitted_instruction s
fitted_parts s this a b next says is_a is_b is_next =
    let own : Instruction = fitted_instruction s in
    ap (λ (n : ℕ). let made : Instruction = record { len = n; a = a; b = b; next = next; d = this.d } in made) (sym says.len)
    ∙ ap (λ (n : ℕ). let made : Instruction = record own { a = n; b = b; next = next; d = this.d } in made) is_a
    ∙ ap (λ (n : ℕ). let made : Instruction = record own { b = n; next = next; d = this.d } in made) is_b
    ∙ ap (λ (n : ℕ). let made : Instruction = record own { next = n; d = this.d } in made)
    (is_next ∙ ap (λ (n : ℕ). (s.i + n) % addresses) (sym says.len))
    ∙ ap (λ (n : ℕ). let made : Instruction = record own { d = n } in made)
    (sym says.d ∙ ap (λ (n : ℕ). (cell_at s.storage (s.i + n - 1)).char) (sym says.len))
