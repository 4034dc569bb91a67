-- Pairs of characters that differ.
use Rattle.std.proofs.Common.{◌≡◌, ℕ, ◌+◌, ◌-◌, ◌<◌, ◌≤◌, ◌==◌, ◌||◌, Bool, List, [], ◌∷◌, length, ◌∙◌, ap, arith, not}
use Rattle.std.proofs.Common.{refl, add-one, slice_index_or}
use Rattle.std.proofs.Math.Bool.{or_comm}
use Rattle.std.specs.List.{list_any, range_with_len}
use Rattle.core_1401.specs.MarkWords.{held, held_cell}
use Rattle.core_1401.specs.Places.{are_unequal, is_unequal_pair}
use Rattle.core_1401.specs.Storage.{cell_at}
use Rattle.core_1401.proofs.HeldLemmas.{cell_at-held}

-- one pair more is looked at, the one below those so far
pub any_below : (chars : List ℕ) (a b n i x y : ℕ) → i < n → n ≤ a + 1 → n ≤ b + 1 → x ≡ a + 1 - n + i
    → y ≡ b + 1 - n + i
    → list_any (are_unequal chars a b) (range_with_len (n - (i + 1)) (i + 1))
    ≡ (list_any (are_unequal chars a b) (range_with_len (n - i) i) || not (slice_index_or chars x 0 == slice_index_or chars y 0))
any_below chars a b n i x y within a_above b_above e f =
    let test : ℕ → Bool = are_unequal chars a b in
    let k : ℕ = n - (i + 1) in
    ap (λ (m : ℕ). list_any test (range_with_len k m)) (add-one i)
    ∙ or_comm (test k) (list_any test (range_with_len (k + 1) i))
    ∙ ap (λ (m : ℕ). list_any test (range_with_len m i) || test k) (omega (arith, within))
    ∙ ap (λ (p : ℕ). list_any test (range_with_len (n - i) i) || not (slice_index_or chars p 0 == slice_index_or chars (b - k) 0))
    (omega (arith, within, a_above, e))
    ∙ ap (λ (q : ℕ). list_any test (range_with_len (n - i) i) || not (slice_index_or chars x 0 == slice_index_or chars q 0))
    (omega (arith, within, b_above, f))

-- two tests with the same answers
same_any : (p q : ℕ → Bool) (numbers : List ℕ) → ((k : ℕ) → p k ≡ q k) → list_any p numbers ≡ list_any q numbers
same_any p q [] same = refl
same_any p q (k ∷ numbers) same =
    ap (λ (b : Bool). b || list_any p numbers) (same k)
    ∙ ap (λ (b : Bool). q k || b) (same_any p q numbers same)

-- the pairs of the list are those of the cells
pub same_pairs : (chars words : List ℕ) (a b n : ℕ) → a < length chars → b < length chars
    → list_any (are_unequal chars a b) (range_with_len 0 n)
    ≡ list_any (is_unequal_pair (held chars words) a b) (range_with_len 0 n)
same_pairs chars words a b n in_a in_b =
    same_any (are_unequal chars a b) (is_unequal_pair (held chars words) a b) (range_with_len 0 n)
    (λ k.
    let of_a : cell_at (held chars words) (a - k) ≡ held_cell chars words (a - k) =
    cell_at-held chars words (a - k) (omega arith) in
    let of_b : cell_at (held chars words) (b - k) ≡ held_cell chars words (b - k) =
    cell_at-held chars words (b - k) (omega arith) in
    rw (of_a, of_b) refl)
