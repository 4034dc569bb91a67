-- Cells that are equal, by eights and one by one.
use Rattle.std.proofs.Common.{◌≡◌, ℕ, ◌+◌, ◌-◌, ◌<◌, ◌≤◌, ◌==◌, suc, Bool, true, false, List, ◌++◌, length}
use Rattle.std.proofs.Common.{get_or, take, drop}
use Rattle.std.proofs.Common.{not, refl, sym, ◌∙◌, ap, subst, arith, inl, inr, ◌&&◌, ◌||◌}
use Rattle.std.specs.Prelude.{if◌then◌else◌}
use Rattle.machine_notation.specs.Cells.{cell_text, cells_text}
use Rattle.std.proofs.lemmas.Bool.{cases_lt, eq-eqb, eqb-true, false≢true}
use Rattle.std.proofs.lemmas.List.{drop_more, get_or_past, same_lists, get_or_default, get_or-drop, length-drop}
use Rattle.std.proofs.lemmas.List.FromFn.{get_or-map-range_with_len}
use Rattle.std.proofs.lemmas.Nat.{le_bytes_8}
use Rattle.bcd_1401.specs.declared.cell.Cell.{Cell}
use Rattle.core_1401.specs.EightCells.{AreEightCells, codes_at}
use Rattle.core_1401.specs.Storage.{Storage, blank, cell_at}
use Rattle.job_steps.specs.Changes.{is_changed}

-- the i-th of eight codes
code_at : (s : Storage) (at i : ℕ) → i < 8 → get_or (codes_at s at) i 0 ≡ (cell_at s (at + i)).char
code_at s at i lt = get_or-map-range_with_len (λ j. (cell_at s (at + j)).char) 0 8 i i 0 lt (omega arith)

-- each takes a byte
small : (s : Storage) (at codes marks : ℕ) → AreEightCells s at codes marks → (i : ℕ) → get_or (codes_at s at) i 0 < 256
small s at codes marks are i =
    elim (cases_lt i 8) [
      | inl lt ↦ omega (arith, code_at s at i lt, are.are_codes i lt)
      | inr past ↦ omega (arith, get_or_past (codes_at s at) i 0 past)
    ]

pub same_cell : (a b : Cell) → a.char ≡ b.char → a.mark ≡ b.mark → a ≡ b
same_cell a b chars marks =
    ap (λ (c : ℕ). let made : Cell = record { char = c; mark = a.mark } in made) chars
    ∙ ap (λ (m : Bool). let made : Cell = record { char = b.char; mark = m } in made) marks

-- eight cells with the same numbers are the same cells
eight_same : (s t : Storage) (at codes marks : ℕ) → AreEightCells s at codes marks → AreEightCells t at codes marks
    → (i : ℕ) → i < 8 → cell_at s (at + i) ≡ cell_at t (at + i)
eight_same s t at codes marks a b i lt =
    let same : codes_at s at ≡ codes_at t at =
    sym (le_bytes_8 (codes_at s at) codes refl (small s at codes marks a) a.are_bytes)
    ∙ le_bytes_8 (codes_at t at) codes refl (small t at codes marks b) b.are_bytes in
    same_cell (cell_at s (at + i)) (cell_at t (at + i))
    (sym (code_at s at i lt) ∙ ap (λ (l : List ℕ). get_or l i 0) same ∙ code_at t at i lt)
    (sym (a.are_bits i lt) ∙ b.are_bits i lt)

same_marks : (b : Bool) → (if b then not b else b) ≡ false
same_marks true = refl
same_marks false = refl

-- a cell is no other than itself
same_unchanged : (x : Cell) → is_changed x x ≡ false
same_unchanged x =
    ap (λ (b : Bool). not b || (if x.mark then not x.mark else x.mark)) (eq-eqb x.char x.char refl)
    ∙ same_marks x.mark

pub unchanged : (x y : Cell) → x ≡ y → is_changed x y ≡ false
unchanged x y e = ap (λ (z : Cell). is_changed x z) (sym e) ∙ same_unchanged x

-- and one that isn't changed is the same
equal_marks : (a b : Bool) → (if a then not b else b) ≡ false → a ≡ b
equal_marks true true h = refl
equal_marks true false h = absurd (false≢true (sym h))
equal_marks false true h = absurd (false≢true (sym h))
equal_marks false false h = refl

either_false : (a b : Bool) → (a || b) ≡ false → (a ≡ false) × (b ≡ false)
either_false true b h = absurd (false≢true (sym h))
either_false false b h = (refl, h)

not_false : (a : Bool) → not a ≡ false → a ≡ true
not_false true h = refl
not_false false h = absurd (false≢true (sym h))

pub is_same : (x y : Cell) → is_changed x y ≡ false → x ≡ y
is_same x y h =
    let both = either_false (not (x.char == y.char)) (if x.mark then not y.mark else y.mark) h in
    same_cell x y (eqb-true x.char y.char (not_false (x.char == y.char) both.0)) (equal_marks x.mark y.mark both.1)

both_true : (a b : Bool) → (a && b) ≡ true → (a ≡ true) × (b ≡ true)
both_true true b h = (refl, h)
both_true false b h = absurd (false≢true h)

-- eight places more that are equal
pub eight_more : (s t : Storage) (from at codes marks codes' marks' : ℕ) → AreEightCells s at codes marks
    → AreEightCells t at codes' marks' → ((codes == codes') && (marks == marks')) ≡ true
    → ((i : ℕ) → from ≤ i → i < at → is_changed (cell_at s i) (cell_at t i) ≡ false)
    → (i : ℕ) → from ≤ i → i < at + 8 → is_changed (cell_at s i) (cell_at t i) ≡ false
eight_more s t from at codes marks codes' marks' a b same before i least most =
    let both = both_true (codes == codes') (marks == marks') same in
    let b_codes : AreEightCells t at codes marks' =
    subst (λ (c : ℕ). AreEightCells t at c marks') (sym (eqb-true codes codes' both.0)) b in
    let b_same : AreEightCells t at codes marks =
    subst (λ (m : ℕ). AreEightCells t at codes m) (sym (eqb-true marks marks' both.1)) b_codes in
    elim (cases_lt i at) [
      | inl lt ↦ before i least lt
      | inr past ↦
          let j : i ≡ at + (i - at) = omega (arith, past) in
          unchanged (cell_at s i) (cell_at t i)
          (ap (cell_at s) j ∙ eight_same s t at codes marks a b_same (i - at) (omega (arith, past, most))
          ∙ ap (cell_at t) (sym j))
    ]

-- the cell at a place, and those above it
pub cell_more : (xs : List Cell) (at end : ℕ) → at < end → end ≤ length xs
    → cells_text (take (end - at) (drop at xs))
    ≡ cell_text (cell_at xs at) ++ cells_text (take (end - (at + 1)) (drop (at + 1) xs))
unfolding cells_text
cell_more xs at end lt within =
    let count : end - at ≡ suc (end - (at + 1)) = omega (arith, lt) in
    ap cells_text
    (ap (λ (n : ℕ). take n (drop at xs)) count
    ∙ ap (λ (ys : List Cell). take (suc (end - (at + 1))) ys) (drop_more xs at blank (omega (arith, lt, within))))

-- core storage is known by its cells
pub same_storage : (xs ys : Storage) → length xs ≡ length ys
    → ((i : ℕ) → i < length xs → cell_at xs i ≡ cell_at ys i) → xs ≡ ys
same_storage xs ys size same =
    same_lists xs ys size (λ k d lt. get_or_default xs k d blank lt ∙ same k lt
    ∙ get_or_default ys k blank d (omega (arith, lt, size)))

pub same_rest : (xs ys : Storage) (at : ℕ) → length xs ≡ length ys
    → ((i : ℕ) → at ≤ i → cell_at xs i ≡ cell_at ys i) → drop at xs ≡ drop at ys
same_rest xs ys at size same =
    same_storage (drop at xs) (drop at ys) (omega (arith, length-drop at xs, length-drop at ys, size))
    (λ i lt. get_or-drop at xs i blank ∙ same (at + i) (omega arith) ∙ sym (get_or-drop at ys i blank))
