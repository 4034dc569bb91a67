-- What a move has moved so far, one character on.
use Rattle.std.proofs.Common.{◌≡◌, ℕ, ◌+◌, ◌-◌, ◌<◌, ◌≤◌, false, length, ap, sym, ◌∙◌, arith, inl, inr}
use Rattle.std.proofs.Math.Nat.{mod-eq_of_lt, add-mod_left}
use Rattle.std.proofs.lemmas.Bool.{cases_lt}
use Rattle.std.proofs.lemmas.Bool.Decides.{nat_tests}
use Rattle.bcd_1401.specs.declared.cell.Cell.{Cell}
use Rattle.core_1401.specs.Storage.{Storage, cell_at, with_char}
use Rattle.fields_1401.specs.Places.{is_within, with_chars, rewritten_cell}
use Rattle.fields_1401.proofs.PlacesLemmas.{with_chars_same, cell_at-within, cell_at-outside, is_within-inside}
use Rattle.fields_1401.proofs.PlacesLemmas.{is_within-above, is_within-below, with_chars_none, with_chars_more}
use Rattle.fields_1401.specs.Load.{is_overwritten}
use Rattle.fields_1401.specs.Move.{source_of, moved}

-- if the B field begins above the A field, or further below it than the i-th place, a character is its own source
source_far : (a b i : ℕ) → a ≤ b → source_of a b i ≡ a - i
source_far a b i le = grind (arith, nat_tests)

source_before : (a b i : ℕ) → b + i < a → source_of a b i ≡ a - i
source_before a b i lt = grind (arith, nat_tests, mod-eq_of_lt)

-- if it was moved before, it has the source of the place where it is
source_again : (a b i j : ℕ) → b < a → a - b + j ≡ i → source_of a b j ≡ source_of a b i
source_again a b i j lt e = let same = add-mod_left (a - b) j in grind (arith, nat_tests)

-- what the A field holds at its i-th place once i characters were moved
source-moved : (storage : Storage) (a b i : ℕ) → a < length storage → b < length storage → i ≤ a → i ≤ b
    → (cell_at (moved storage a b i) (a - i)).char ≡ (cell_at storage (source_of a b i)).char
unfolding moved with_chars
source-moved storage a b i a_in b_in in_a in_b =
    let moved_cell : ℕ → Cell = rewritten_cell storage b (λ k. (cell_at storage (source_of a b k)).char) in
    let unmoved : is_within b i (a - i) ≡ false → source_of a b i ≡ a - i
    → (cell_at (moved storage a b i) (a - i)).char ≡ (cell_at storage (source_of a b i)).char =
    λ out e. ap (λ (cell : Cell). cell.char) (cell_at-outside storage b i moved_cell (a - i) (omega arith) out
    ∙ ap (cell_at storage) (sym e)) in
    elim (cases_lt b a) [
      | inl lt ↦ elim (cases_lt (b + i) a) [
        | inl far ↦ unmoved (is_within-above b i (a - i) (omega arith)) (source_before a b i far)
        | inr near ↦ ap (λ (cell : Cell). cell.char) (cell_at-within storage b i moved_cell (a - i) (omega arith)
            (is_within-inside b i (a - i) (omega arith) (omega arith)))
            ∙ ap (λ q. (cell_at storage q).char) (source_again a b i (b - (a - i)) lt (omega arith))
      ]
      | inr le ↦ unmoved (is_within-below b i (a - i) (omega arith)) (source_far a b i le)
    ]

-- before a move nothing is moved
pub moved_none : (storage : Storage) (a b : ℕ) → storage ≡ moved storage a b 0
unfolding moved
moved_none storage a b = with_chars_none storage b (λ i. (cell_at storage (source_of a b i)).char)

-- one character more is moved
pub moved_more : (storage : Storage) (a b i : ℕ) → a < length storage → b < length storage → i ≤ a → i ≤ b
    → with_char (moved storage a b i) (b - i) (cell_at (moved storage a b i) (a - i)).char ≡ moved storage a b (i + 1)
unfolding moved
moved_more storage a b i a_in b_in in_a in_b =
    ap (with_char (moved storage a b i) (b - i)) (source-moved storage a b i a_in b_in in_a in_b)
    ∙ with_chars_more storage b i (λ k. (cell_at storage (source_of a b k)).char) b_in in_b

-- a field that begins below another within its length is written over it
overlaps : (a b n : ℕ) → b < a → a < b + n → is_overwritten a b n ≡ false → ⊥
overlaps a b n lt near apart = grind (arith, nat_tests)

-- if nothing is written over before it is read, each character is its own source
own_source : (a b n i : ℕ) → is_overwritten a b n ≡ false → i < n → source_of a b i ≡ a - i
own_source a b n i apart within =
    elim (cases_lt b a) [
      | inr le ↦ source_far a b i le
      | inl lt ↦ elim (cases_lt a (b + n)) [
        | inl near ↦ absurd (overlaps a b n lt near apart)
        | inr far ↦ source_before a b i (omega arith)
      ]
    ]

-- so a copy moves the characters
pub moved_by_copy : (storage : Storage) (a b n : ℕ) → is_overwritten a b n ≡ false
    → with_chars storage b n (λ i. (cell_at storage (a - i)).char) ≡ moved storage a b n
unfolding moved
moved_by_copy storage a b n apart =
    with_chars_same storage b n (λ i. (cell_at storage (a - i)).char) (λ i. (cell_at storage (source_of a b i)).char)
    (λ i within. ap (λ p. (cell_at storage p).char) (sym (own_source a b n i apart within)))
