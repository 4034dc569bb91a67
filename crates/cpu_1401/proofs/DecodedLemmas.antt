-- What cells say, wherever they are.
use Rattle.std.proofs.Common.{◌≡◌, ◌⊎◌, ◌&&◌, ◌||◌, ℕ, ◌+◌, ◌-◌, ◌<◌, ◌≤◌, suc, zero, min, Bool, true, false, List, []}
use Rattle.std.proofs.Common.{◌∷◌}
use Rattle.std.proofs.Common.{length, arith, refl, sym, ◌∙◌, ap, subst, drop, cond, get_or, inl, inr, nat_le, not}
use Rattle.std.proofs.lemmas.Bool.{and_parts, cases_lt, false≢true, leb-true, lt-ltb, le-leb, lt-leb}
use Rattle.std.proofs.lemmas.List.{get_or-drop, length-drop, get_or_past}
use Rattle.std.proofs.lemmas.List.FromFn.{get_or-map-range_with_len}
use Rattle.std.proofs.lemmas.Nat.{le_bytes_8}
use Rattle.std.specs.List.{position_or_len}
use Rattle.bcd_1401.specs.Character.{zone_of}
use Rattle.bcd_1401.specs.declared.cell.Cell.{Cell}
use Rattle.core_1401.specs.Address.{effective_at, indexed_by, value_of}
use Rattle.core_1401.specs.EightCells.{AreEightCells, codes_at}
use Rattle.core_1401.specs.Field.{next_mark_from}
use Rattle.core_1401.specs.Storage.{Storage, blank, cell_at}
use Rattle.cpu_1401.specs.declared.decoded.Address.{Address}
use Rattle.cpu_1401.specs.declared.decoded.Decoded.{Decoded}
use Rattle.cpu_1401.specs.declared.decoded.Addressing.{Addressing}
use Rattle.cpu_1401.specs.declared.decoded.Addressing.TheVariants.{Both, Target, Unasked, OnlyA, Registers}
use Rattle.cpu_1401.specs.declared.instruction.Instruction.{Instruction}
use Rattle.machine_tables.specs.declared.operation.Operation.{Operation}
use Rattle.machine_tables.specs.declared.operation.Operation.TheVariants as op
use Rattle.cpu_1401.specs.Decoded.{AlwaysSay, IsAddress, Says, Serve}
use Rattle.cpu_1401.specs.Instruction.{instruction_of, length_at, longest_at}
use Rattle.machine_tables.specs.Operation.{form_of, operation_of}
use Rattle.cpu_1401.specs.Addressing.{has_b}
use Rattle.cpu_1401.specs.State.{State}
use Rattle.cpu_1401.specs.Step.{perform, step}

-- the i-th of eight codes
pub code_at : (s : Storage) (at i : ℕ) → i < 8 → get_or (codes_at s at) i 0 ≡ (cell_at s (at + i)).char
code_at s at i lt = get_or-map-range_with_len (λ j. (cell_at s (at + j)).char) 0 8 i i 0 lt (omega arith)

-- each takes a byte
small : (s : Storage) (at codes marks : ℕ) → AreEightCells s at codes marks → (i : ℕ) → get_or (codes_at s at) i 0 < 256
small s at codes marks are i =
    elim (cases_lt i 8) [
      | inl lt ↦ omega (arith, code_at s at i lt, are.are_codes i lt)
      | inr past ↦ omega (arith, get_or_past (codes_at s at) i 0 past)
    ]

-- two rows of eight cells with the same numbers hold the same
pub record Alike (s t : Storage) (at to : ℕ) : Type 0 where
  pub cells : (i : ℕ) → i < 8 → cell_at s (at + i) ≡ cell_at t (to + i)
  pub s_inside : at + 8 ≤ length s
  pub t_inside : to + 8 ≤ length t

cell_of : ℕ → Bool → Cell
cell_of char mark = record { char = char; mark = mark }

same_cell : (a b : Cell) → a.char ≡ b.char → a.mark ≡ b.mark → a ≡ b
same_cell a b chars marks =
    ap (λ (c : ℕ). let made : Cell = record { char = c; mark = a.mark } in made) chars
    ∙ ap (λ (m : Bool). let made : Cell = record { char = b.char; mark = m } in made) marks

pub same_cells : (s t : Storage) (at to codes marks : ℕ) → at + 8 ≤ length s → to + 8 ≤ length t
    → AreEightCells s at codes marks → AreEightCells t to codes marks → Alike s t at to
same_cells s t at to codes marks s_in t_in a b =
    let same : codes_at s at ≡ codes_at t to =
    sym (le_bytes_8 (codes_at s at) codes refl (small s at codes marks a) a.are_bytes)
    ∙ le_bytes_8 (codes_at t to) codes refl (small t to codes marks b) b.are_bytes in
    record {
      cells = λ i lt. same_cell (cell_at s (at + i)) (cell_at t (to + i))
          (sym (code_at s at i lt) ∙ ap (λ (l : List ℕ). get_or l i 0) same ∙ code_at t to i lt)
          (sym (a.are_bits i lt) ∙ b.are_bits i lt);
      s_inside = s_in;
      t_inside = t_in;
    }

-- one of them by its place
pub same_at : (s t : Storage) (at to i p q : ℕ) → Alike s t at to → i < 8 → p ≡ at + i → q ≡ to + i
    → cell_at s p ≡ cell_at t q
same_at s t at to i p q alike lt e f = ap (cell_at s) e ∙ alike.cells i lt ∙ ap (cell_at t) (sym f)

-- the first with a word mark, looked for no further than to n
counted : (n k l : ℕ) (c : Bool) → min n k ≡ min n l
    → min (suc n) (cond (not c) (1 + k) 0) ≡ min (suc n) (cond (not c) (1 + l) 0)
counted n k l true h = refl
counted n k l false h = omega (arith, h)

same_first : (n : ℕ) (xs ys : List Cell) → n ≤ length xs → n ≤ length ys
    → ((i : ℕ) → i < n → (get_or xs i blank).mark ≡ (get_or ys i blank).mark)
    → min n (position_or_len (λ (cell : Cell). cell.mark) xs) ≡ min n (position_or_len (λ (cell : Cell). cell.mark) ys)
same_first zero xs ys in_xs in_ys same = omega arith
same_first (suc n) [] ys in_xs in_ys same = absurd (omega (arith, in_xs))
same_first (suc n) (x ∷ xs) [] in_xs in_ys same = absurd (omega (arith, in_ys))
same_first (suc n) (x ∷ xs) (y ∷ ys) in_xs in_ys same =
    let k : ℕ = position_or_len (λ (cell : Cell). cell.mark) xs in
    let l : ℕ = position_or_len (λ (cell : Cell). cell.mark) ys in
    let rest : min n k ≡ min n l = same_first n xs ys (omega (arith, in_xs)) (omega (arith, in_ys))
    (λ i lt. same (suc i) (omega (arith, lt))) in
    let first : x.mark ≡ y.mark = same 0 (omega arith) in
    ap (λ (c : Bool). min (suc n) (cond (not c) (1 + k) 0)) first ∙ counted n k l y.mark rest

-- the next word mark is looked for among eight cells
pub same_next : (s t : Storage) (at to : ℕ) → Alike s t at to → min 8 (next_mark_from s at) ≡ min 8 (next_mark_from t to)
same_next s t at to alike =
    let in_s : 7 ≤ length (drop (at + 1) s) = omega (arith, length-drop (at + 1) s, alike.s_inside) in
    let in_t : 7 ≤ length (drop (to + 1) t) = omega (arith, length-drop (to + 1) t, alike.t_inside) in
    let first =
    same_first 7 (drop (at + 1) s) (drop (to + 1) t) in_s in_t
    (λ i lt. ap (λ (cell : Cell). cell.mark) (get_or-drop (at + 1) s i blank
    ∙ same_at s t at to (i + 1) (at + 1 + i) (to + 1 + i) alike (omega (arith, lt)) (omega arith) (omega arith)
    ∙ sym (get_or-drop (to + 1) t i blank))) in
    omega (arith, first)

-- the length of an instruction is that of its cells
same_length : (s t : Storage) (at to : ℕ) (operation : Operation) → Alike s t at to → longest_at s operation at ≤ 8
    → length_at s operation at ≡ length_at t operation to
same_length s t at to operation alike most =
    let fifth : cell_at s (at + 4) ≡ cell_at t (to + 4) = alike.cells 4 (omega arith) in
    let longest : longest_at s operation at ≡ longest_at t operation to =
    ap (λ (cell : Cell). (form_of operation).longest cell.char) fifth in
    omega (arith, same_next s t at to alike, longest, most)

-- and so is each of its addresses
pub same_address : (s t : Storage) (at to k : ℕ) (address : Address) → Alike s t at to → k + 2 < 8
    → IsAddress s (at + k) address → IsAddress t (to + k) address
same_address s t at to k address alike lt is =
    let h : cell_at s (at + k) ≡ cell_at t (to + k) = alike.cells k (omega (arith, lt)) in
    let m : cell_at s (at + k + 1) ≡ cell_at t (to + k + 1) =
    same_at s t at to (k + 1) (at + k + 1) (to + k + 1) alike (omega (arith, lt)) (omega arith) (omega arith) in
    let u : cell_at s (at + k + 2) ≡ cell_at t (to + k + 2) =
    same_at s t at to (k + 2) (at + k + 2) (to + k + 2) alike (omega (arith, lt)) (omega arith) (omega arith) in
    record {
      value = sym (
          ap (λ (cell : Cell). value_of cell.char (cell_at s (at + k + 1)).char (cell_at s (at + k + 2)).char) h
          ∙ ap (λ (cell : Cell). value_of (cell_at t (to + k)).char cell.char (cell_at s (at + k + 2)).char) m
          ∙ ap (λ (cell : Cell). value_of (cell_at t (to + k)).char (cell_at t (to + k + 1)).char cell.char) u
          ) ∙ is.value;
      register = ap (λ (cell : Cell). zone_of cell.char) (sym m) ∙ is.register;
    }

-- what eight cells say at one place they say at another
pub says_again : (s t : Storage) (at to : ℕ) (this : Decoded) → Alike s t at to → Says s at this → Says t to this
says_again s t at to this alike says =
    let none_at : at ≡ at + 0 = omega arith in
    let none_to : to ≡ to + 0 = omega arith in
    let first : cell_at s at ≡ cell_at t to = same_at s t at to 0 at to alike (omega arith) none_at none_to in
    let last : cell_at s (at + this.len - 1) ≡ cell_at t (to + this.len - 1) =
    same_at s t at to (this.len - 1) (at + this.len - 1) (to + this.len - 1) alike
    (omega (arith, this.some, this.most)) (omega (arith, this.some)) (omega (arith, this.some)) in
    record {
      mark = ap (λ (cell : Cell). cell.mark) (sym first) ∙ says.mark;
      operation = ap (λ (cell : Cell). operation_of cell.char) (sym first) ∙ says.operation;
      near = subst (λ (cell : Cell). (form_of this.operation).longest cell.char ≤ 8)
          (alike.cells 4 (omega arith)) says.near;
      len = sym (same_length s t at to this.operation alike says.near) ∙ says.len;
      is_fitted = says.is_fitted;
      is_length = says.is_length;
      inside = omega (arith, alike.t_inside, this.most);
      d = ap (λ (cell : Cell). cell.char) (sym last) ∙ says.d;
      a = λ h. same_address s t at to 1 this.a alike (omega arith) (says.a h);
      b = λ h. same_address s t at to 4 this.b alike (omega arith) (says.b h);
      only = λ h less. same_address s t at to 1 this.b alike (omega arith) (says.only h less);
    }

-- so what is kept says it always
pub always_say : (s : Storage) (at codes marks : ℕ) (this : Decoded) → at + 8 ≤ length s
    → AreEightCells s at codes marks → Says s at this → AlwaysSay codes marks this
always_say s at codes marks this inside are says =
    λ t to t_inside t_are. says_again s t at to this (same_cells s t at to codes marks inside t_inside are t_are) says

-- an address with its index register
pub effective_is : (s : Storage) (at : ℕ) (address : Address) → IsAddress s at address
    → indexed_by s address.value address.register ≡ effective_at s at
effective_is s at address is = rw (sym is.value, sym is.register) refl

-- the A address of an instruction with an address
pub a_of_one : (s : State) (this : Decoded) → Says s.storage s.i this → 4 ≤ this.len
    → indexed_by s.storage this.a.value this.a.register ≡ (instruction_of this.operation this.len s).a
a_of_one s this says h = rw (le-leb 4 this.len h) (effective_is s.storage (s.i + 1) this.a (says.a h))

-- an instruction has an address for the B register if it has two, or if its only one is for both
has_only : (this : Decoded) → this.len < 7
    → has_b this.operation this.len ≡ nat_le 4 this.len && (form_of this.operation).loads_both
has_only this less =
    ap (λ (c : Bool). c || (nat_le 4 this.len && (form_of this.operation).loads_both)) (lt-leb 7 this.len less)

has_two : (this : Decoded) → 7 ≤ this.len → has_b this.operation this.len ≡ true
has_two this h =
    ap (λ (c : Bool). c || (nat_le 4 this.len && (form_of this.operation).loads_both)) (le-leb 7 this.len h)

-- its own B address
pub own_b : (s : State) (this : Decoded) → Says s.storage s.i this → has_b this.operation this.len ≡ true
    → indexed_by s.storage this.b.value this.b.register ≡ (instruction_of this.operation this.len s).b
own_b s this says has =
    elim (cases_lt this.len 7) [
      | inl less ↦
          let only = and_parts (nat_le 4 this.len) (form_of this.operation).loads_both (sym (has_only this less) ∙ has) in
          rw (lt-leb 7 this.len less, only.0, only.1)
          (effective_is s.storage (s.i + 1) this.b (says.only (leb-true 4 this.len only.0) less))
      | inr two ↦ rw (le-leb 7 this.len two) (effective_is s.storage (s.i + 4) this.b (says.b two))
    ]

-- or the B register as it stands
pub no_own_b : (s : State) (this : Decoded) → has_b this.operation this.len ≡ false
    → s.b ≡ (instruction_of this.operation this.len s).b
no_own_b s this none =
    elim (cases_lt this.len 7) [
      | inl less ↦ rw (lt-leb 7 this.len less, sym (has_only this less) ∙ none) refl
      | inr two ↦ absurd (false≢true (sym none ∙ has_two this two))
    ]

-- an address without an index register
pub plain : (storage : Storage) (value register : ℕ) → register ≡ 0 → value ≡ indexed_by storage value register
plain storage value register none = ap (λ (n : ℕ). indexed_by storage value n) (sym none)

-- its own addresses serve
pub own_serve : (s : State) (this : Decoded) (a b : ℕ) → a ≡ (instruction_of this.operation this.len s).a
    → b ≡ (instruction_of this.operation this.len s).b → Serve s this a b
own_serve s this a b is_a is_b =
    let own : Instruction = instruction_of this.operation this.len s in
    ap (λ (n : ℕ). perform this.operation (record own { a = n; b = b }) s) is_a
    ∙ ap (λ (n : ℕ). perform this.operation (record own { b = n }) s) is_b

-- a branch of four characters asks for no B address
target_serves : (s : State) (this : Decoded) (a b : ℕ) → this.operation ≡ op.Branch → this.len ≡ 4
    → a ≡ (instruction_of this.operation this.len s).a → Serve s this a b
target_serves s this a b branch four is_a =
    let own : Instruction = instruction_of this.operation this.len s in
    ap (λ (n : ℕ). perform this.operation (record own { a = n; b = b }) s) is_a
    ∙ rw (branch, four) refl

-- no operation asks for none
unasked_serve : (s : State) (this : Decoded) (a b : ℕ) → this.operation ≡ op.NoOperation → Serve s this a b
unasked_serve s this a b none = rw none refl

-- a value of five
cases_source : (source : Addressing)
    → (source ≡ Both) ⊎ ((source ≡ Target) ⊎ ((source ≡ Unasked) ⊎ ((source ≡ OnlyA) ⊎ (source ≡ Registers))))
cases_source Both = inl refl
cases_source Target = inr (inl refl)
cases_source Unasked = inr (inr (inl refl))
cases_source OnlyA = inr (inr (inr (inl refl)))
cases_source Registers = inr (inr (inr (inr refl)))

-- addresses that are ready serve
pub ready_serve : (s : State) (this : Decoded) → Says s.storage s.i this → this.is_ready ≡ true
    → Serve s this this.a.value this.b.value
ready_serve s this says ready =
    elim (cases_source this.source) [
      | inl both ↦ own_serve s this this.a.value this.b.value
          (plain s.storage this.a.value this.a.register (this.both_a both) ∙ a_of_one s this says (this.both_len both))
          (plain s.storage this.b.value this.b.register (this.both_b both) ∙ own_b s this says (this.both_own both))
      | inr (inl target) ↦ target_serves s this this.a.value this.b.value (this.target_branch target)
          (this.target_len target)
          (plain s.storage this.a.value this.a.register (this.target_a target)
          ∙ a_of_one s this says (omega (arith, this.target_len target)))
      | inr (inr (inl none)) ↦ unasked_serve s this this.a.value this.b.value (this.unasked none)
      | inr (inr (inr (inl only))) ↦ absurd (this.ready ready only)
      | inr (inr (inr (inr registers))) ↦ absurd (this.ready_alone ready registers)
    ]

-- and an only one for the A register beside the B register as it stands
pub only_a_serves : (s : State) (this : Decoded) → Says s.storage s.i this → this.source ≡ OnlyA
    → Serve s this this.a.value s.b
only_a_serves s this says only =
    own_serve s this this.a.value s.b
    (plain s.storage this.a.value this.a.register (this.only_a only) ∙ a_of_one s this says (this.only_len only))
    (no_own_b s this (this.only_alone only))

-- the step does what the cells say
pub says_step : (s : State) (this : Decoded) → Says s.storage s.i this
    → step s ≡ perform this.operation (instruction_of this.operation this.len s) s
unfolding step
says_step s this says =
    let in_core : s.i < length s.storage = omega (arith, says.inside, this.some) in
    rw (lt-ltb s.i (length s.storage) in_core, says.mark, says.operation, says.len, says.is_fitted, says.is_length) refl
