-- Characters and words of marks after many places were written at once.
use Rattle.std.proofs.Common.{◌≡◌, ◌≢◌, ℕ, ◌+◌, ◌-◌, ◌/◌, ◌%◌, ◌<◌, ◌≤◌, ◌==◌, ◌⊎◌, Bool, true, false, List, Some}
use Rattle.std.proofs.Common.{length, set, slice_index_or, if◌then◌else◌, inl, inr, refl, ap, sym, ◌∙◌, arith}
use Rattle.std.proofs.lemmas.Bool.{cases_eq, cases_lt}
use Rattle.std.proofs.lemmas.Bool.Decides.{nat_tests}
use Rattle.std.proofs.lemmas.List.FromFn.{fill_by_all}
use Rattle.bcd_1401.specs.declared.cell.Cell.{Cell}
use Rattle.core_1401.specs.Field.{field_len_of}
use Rattle.core_1401.specs.MarkWords.{mark_bit, held_cell, held, IsWithBit, IsWhole, AreCleared}
use Rattle.core_1401.specs.Places.{is_within, written_cell, with_cells, rewritten_cell, with_chars, unmarked_place}
use Rattle.core_1401.specs.Storage.{Storage, blank, cell_at, is_core_size}
use Rattle.core_1401.proofs.FieldLemmas.{marked_last, unmarked_before}
use Rattle.core_1401.proofs.HeldLemmas.{length_held, cell_at-held, same_cell, other_bit, bit_there, whole-mark}

-- a place of the field, and one beside it
in_field : (at n q : ℕ) → q ≤ at → at < q + n → is_within at n q ≡ true
in_field at n q le lt = grind (arith, nat_tests)

beside_field : (at n q : ℕ) → (at < q) ⊎ (q + n ≤ at) → is_within at n q ≡ false
beside_field at n q beside = elim beside [ inl over ↦ grind (arith, nat_tests) | inr under ↦ grind (arith, nat_tests) ]

written_in : (storage : Storage) (at n : ℕ) (cell_of : ℕ → Cell) (q : ℕ) → q ≤ at → at < q + n
    → written_cell storage at n cell_of q ≡ cell_of (at - q)
written_in storage at n cell_of q le lt = ap (λ (b : Bool). if b then cell_of (at - q) else cell_at storage q)
    (in_field at n q le lt)

written_beside : (storage : Storage) (at n : ℕ) (cell_of : ℕ → Cell) (q : ℕ) → (at < q) ⊎ (q + n ≤ at)
    → written_cell storage at n cell_of q ≡ cell_at storage q
written_beside storage at n cell_of q beside = ap (λ (b : Bool). if b then cell_of (at - q) else cell_at storage q)
    (beside_field at n q beside)

-- what is held is the storage with these cells, if each of them is held and what is beside the field is as it was
pub held-with_cells : (chars words new marks : List ℕ) (at n : ℕ) (cell_of : ℕ → Cell) → at < length chars
    → length new ≡ length chars
    → ((q : ℕ) → q ≤ at → at < q + n → held_cell new marks q ≡ cell_of (at - q))
    → ((q : ℕ) → (at < q) ⊎ (q + n ≤ at) → held_cell new marks q ≡ held_cell chars words q)
    → held new marks ≡ with_cells (held chars words) at n cell_of
unfolding with_cells
held-with_cells chars words new marks at n cell_of at_in same inside beside =
    let storage : Storage = held chars words in
    let size : length storage ≡ length chars = length_held chars words in
    let stays : (q : ℕ) → q < length chars → (at < q) ⊎ (q + n ≤ at)
    → held_cell new marks q ≡ written_cell storage at n cell_of q =
    λ q in_core out. beside q out ∙ sym (cell_at-held chars words q in_core)
    ∙ sym (written_beside storage at n cell_of q out) in
    fill_by_all (written_cell storage at n cell_of) (held new marks) (length storage) blank
    (length_held new marks ∙ same ∙ sym size)
    (λ q lt.
    let in_core : q < length chars = omega (arith, size, lt) in
    cell_at-held new marks q (omega (arith, same, in_core))
    ∙ (elim (cases_lt at q) [
      | inl over ↦ stays q in_core (inl over)
      | inr le ↦ elim (cases_lt at (q + n)) [
        | inl near ↦ inside q le near ∙ sym (written_in storage at n cell_of q le near)
        | inr under ↦ stays q in_core (inr under)
      ]
    ]))

-- n characters are copied from a down to b down, and the others stay
pub record AreCopied (chars new : List ℕ) (a b n : ℕ) : Type 0 where
  pub count : length new ≡ length chars
  pub copied : (i : ℕ) → i < n → slice_index_or new (b - i) 0 ≡ slice_index_or chars (a - i) 0
  pub above : (i : ℕ) → b < i → slice_index_or new i 0 ≡ slice_index_or chars i 0
  pub below : (i : ℕ) → i + n ≤ b → slice_index_or new i 0 ≡ slice_index_or chars i 0

beside_copied : (chars new : List ℕ) (a b n q : ℕ) → AreCopied chars new a b n → (b < q) ⊎ (q + n ≤ b)
    → slice_index_or new q 0 ≡ slice_index_or chars q 0
beside_copied chars new a b n q copy beside = elim beside [
  | inl over ↦ copy.above q over
  | inr under ↦
      copy.below q under
]

-- the character that comes to a place
char_copied : (chars new words : List ℕ) (a b n q : ℕ) → AreCopied chars new a b n → a < length chars → q ≤ b
    → b < q + n
    → slice_index_or new q 0 ≡ (cell_at (held chars words) (a - (b - q))).char
char_copied chars new words a b n q copy a_in le near =
    let place : q ≡ b - (b - q) = omega (arith, le) in
    ap (λ (p : ℕ). slice_index_or new p 0) place ∙ copy.copied (b - q) (omega (arith, le, near))
    ∙ ap (λ (c : Cell). c.char) (sym (cell_at-held chars words (a - (b - q)) (omega (arith, a_in))))

pub held-copied : (chars new words : List ℕ) (a b n : ℕ) → AreCopied chars new a b n → a < length chars
    → b < length chars
    → held new words ≡ with_chars (held chars words) b n (λ i. (cell_at (held chars words) (a - i)).char)
unfolding with_chars
held-copied chars new words a b n copy a_in b_in =
    let storage : Storage = held chars words in
    let char_of : ℕ → ℕ = λ i. (cell_at storage (a - i)).char in
    held-with_cells chars words new words b n (rewritten_cell storage b char_of) b_in copy.count
    (λ q le near.
    let place : q ≡ b - (b - q) = omega (arith, le) in
    same_cell (held_cell new words q) (rewritten_cell storage b char_of (b - q))
    (char_copied chars new words a b n q copy a_in le near)
    (ap (λ (c : Cell). c.mark) (sym (cell_at-held chars words q (omega (arith, le, b_in))))
    ∙ ap (λ (p : ℕ). (cell_at storage p).mark) place))
    (λ q beside. same_cell (held_cell new words q) (held_cell chars words q)
    (beside_copied chars new a b n q copy beside) refl)

-- blanks without word marks
pub record AreBlanks (chars new : List ℕ) (low high : ℕ) : Type 0 where
  pub count : length new ≡ length chars
  pub inside : (i : ℕ) → low ≤ i → i < high → slice_index_or new i 0 ≡ 0
  pub below : (i : ℕ) → i < low → slice_index_or new i 0 ≡ slice_index_or chars i 0
  pub above : (i : ℕ) → high ≤ i → slice_index_or new i 0 ≡ slice_index_or chars i 0

-- the marks beside those that are cleared
beside_cleared : (words marks : List ℕ) (at n q : ℕ) → AreCleared words (at + 1 - n) at marks → (at < q) ⊎ (q + n ≤ at)
    → mark_bit marks q ≡ mark_bit words q
beside_cleared words marks at n q cleared beside =
    elim beside [ inl over ↦ cleared.above q over | inr under ↦ cleared.below q (omega (arith, under)) ]

pub held-cleared : (chars words new marks : List ℕ) (at n : ℕ) → at < length chars → n ≤ at + 1
    → AreBlanks chars new (at + 1 - n) (at + 1)
    → AreCleared words (at + 1 - n) at marks → held new marks ≡ with_cells (held chars words) at n (λ i. blank)
held-cleared chars words new marks at n at_in places blanks cleared =
    held-with_cells chars words new marks at n (λ i. blank) at_in blanks.count
    (λ q le near. same_cell (held_cell new marks q) blank (blanks.inside q (omega (arith, near)) (omega (arith, le)))
    (ap (λ (m : ℕ). m == 1) (cleared.inside q (omega (arith, near)) le)))
    (λ q beside. same_cell (held_cell new marks q) (held_cell chars words q)
    (elim beside [
      | inl over ↦ blanks.above q (omega (arith, over))
      | inr under ↦
          blanks.below q (omega (arith, under))
    ])
    (ap (λ (m : ℕ). m == 1) (beside_cleared words marks at n q cleared beside)))

-- the marks alone are cleared
pub held-unmarked : (chars words marks : List ℕ) (at n : ℕ) → at < length chars → AreCleared words (at + 1 - n) at marks
    → held chars marks ≡ with_cells (held chars words) at n (unmarked_place (held chars words) at)
held-unmarked chars words marks at n at_in cleared =
    let storage : Storage = held chars words in
    held-with_cells chars words chars marks at n (unmarked_place storage at) at_in refl
    (λ q le near.
    let place : q ≡ at - (at - q) = omega (arith, le) in
    same_cell (held_cell chars marks q) (unmarked_place storage at (at - q))
    (ap (λ (c : Cell). c.char) (sym (cell_at-held chars words q (omega (arith, le, at_in))))
    ∙ ap (λ (p : ℕ). (cell_at storage p).char) place)
    (ap (λ (m : ℕ). m == 1) (cleared.inside q (omega (arith, near)) le)))
    (λ q beside. same_cell (held_cell chars marks q) (held_cell chars words q) refl
    (ap (λ (m : ℕ). m == 1) (beside_cleared words marks at n q cleared beside)))

-- a field's characters are copied, the marks of its new places cleared, and its own set
pub held-field : (chars words new marks : List ℕ) (a b n word : ℕ) → AreCopied chars new a b n → a < length chars
    → b < length chars → 0 < n → n ≤ a + 1 → n ≤ b + 1
    → field_len_of (held chars words) a ≡ Some n → AreCleared words (b + 1 - n) b marks
    → (b + 1 - n) / 64 + 1 < length words
    → IsWithBit (slice_index_or marks ((b + 1 - n) / 64 + 1) 0) ((b + 1 - n) % 64) true word
    → held new (set marks ((b + 1 - n) / 64 + 1) word) ≡ with_cells (held chars words) b n
    (λ i. cell_at (held chars words) (a - i))
held-field chars words new marks a b n word copy a_in b_in some a_places b_places field cleared in_words bit =
    let storage : Storage = held chars words in
    let low : ℕ = b + 1 - n in
    let after : List ℕ = set marks (low / 64 + 1) word in
    let in_storage : a < length storage = omega (arith, length_held chars words, a_in) in
    let in_marks : low / 64 + 1 < length marks = omega (arith, cleared.count, in_words) in
    let others : (q : ℕ) → q ≢ low → mark_bit after q ≡ mark_bit marks q =
    λ q other. other_bit marks low q word true in_marks bit other in
    held-with_cells chars words new after b n (λ i. cell_at storage (a - i)) b_in copy.count
    (λ q le near.
    same_cell (held_cell new after q) (cell_at storage (a - (b - q)))
    (char_copied chars new words a b n q copy a_in le near)
    (elim (cases_eq q low) [
      | inl here ↦
          let last : n - 1 ≡ b - q = omega (arith, here, some, b_places) in
          bit_there marks low q word true here in_marks bit ∙ sym (marked_last storage a n in_storage field)
          ∙ ap (λ (i : ℕ). (cell_at storage (a - i)).mark) last
      | inr other ↦ ap (λ (m : ℕ). m == 1) (others q other ∙ cleared.inside q (omega (arith, near)) le)
          ∙ sym (unmarked_before storage a n (b - q) in_storage field (omega (arith, le, near, other)))
    ]))
    (λ q beside. same_cell (held_cell new after q) (held_cell chars words q)
    (beside_copied chars new a b n q copy beside)
    (ap (λ (m : ℕ). m == 1) (others q (λ e. elim beside [
      | inl over ↦ absurd (omega (arith, e, over, some))
      | inr under ↦
          absurd (omega (arith, e, under, b_places, some))
    ])
    ∙ beside_cleared words marks b n q cleared beside)))

-- what is cleared below the end leaves the bits beyond it
pub whole-cleared : (chars words new marks : List ℕ) (low high : ℕ) → length new ≡ length chars → high < length chars
    → AreCleared words low high marks
    → IsWhole chars words → IsWhole new marks
whole-cleared chars words new marks low high same in_core cleared whole = record {
  size = ap is_core_size same ∙ whole.size;
  none_beyond = λ at beyond. cleared.above at (omega (arith, beyond, same, in_core))
      ∙ whole.none_beyond at (omega (arith, beyond, same));
}

-- the marks of a field that was copied
pub whole-field : (chars words new marks : List ℕ) (low high word : ℕ) → length new ≡ length chars → high < length chars
    → low ≤ high → AreCleared words low high marks
    → low / 64 + 1 < length words → IsWithBit (slice_index_or marks (low / 64 + 1) 0) (low % 64) true word
    → IsWhole chars words
    → IsWhole new (set marks (low / 64 + 1) word)
whole-field chars words new marks low high word same in_core order cleared in_words bit whole =
    whole-mark new marks low word true (omega (arith, same, in_core, order))
    (omega (arith, cleared.count, in_words)) bit
    (whole-cleared chars words new marks low high same in_core cleared whole)
