-- Rows and their columns, one by one.
use Rattle.std.proofs.Common.{◌≡◌, ℕ, suc, ◌+◌, ◌-◌, ◌<◌, ◌≤◌, ◌==◌, ◌&&◌, Bool, true, false, List, [], ◌∷◌, ◌++◌, length}
use Rattle.std.proofs.Common.{map, refl, reverse, sym, ◌∙◌, ap, arith}
use Rattle.std.specs.List.{flat_map, list_all, prefix_len, range_with_len, suffix_len}
use Rattle.std.proofs.lemmas.Grind.{reverse_onto}
use Rattle.std.proofs.lemmas.List.{length-reverse}
use Rattle.std.proofs.lemmas.List.Folds.{list_all-append}
use Rattle.std.proofs.lemmas.List.FromFn.{map-range_with_len_more}
use Rattle.core_1401.specs.Storage.{Storage}
use Rattle.bcd_1401.specs.declared.cell.Cell.{Cell}
use Rattle.operate_views.specs.Ruler.{is_unmarked, numbered_row, row_cells, shown_at}

-- a column more
pub cell_more : (storage : Storage) (first end row at : ℕ) → row ≤ at
    → map (shown_at storage first end) (range_with_len row (at + 1 - row))
    ≡ map (shown_at storage first end) (range_with_len row (at - row)) ++ shown_at storage first end at ∷ []
cell_more storage first end row at le =
    let count : at + 1 - row ≡ at - row + 1 = omega arith in
    ap (λ n. map (shown_at storage first end) (range_with_len row n)) count
    ∙ map-range_with_len_more (shown_at storage first end) row (at - row) at (omega arith)

-- the numbers from one on
range_step : (k end : ℕ) → k < end → range_with_len k (end - k) ≡ k ∷ range_with_len (k + 1) (end - (k + 1))
range_step k end lt =
    let count : end - k ≡ suc (end - (k + 1)) = omega arith in
    ap (λ n. range_with_len k n) count

-- a row, and those that are left
pub row_more : (storage : Storage) (first end k last : ℕ) → k < last
    → flat_map (numbered_row storage first end) (range_with_len k (last - k))
    ≡ numbered_row storage first end k
    ++ flat_map (numbered_row storage first end) (range_with_len (k + 1) (last - (k + 1)))
row_more storage first end k last lt = ap (flat_map (numbered_row storage first end)) (range_step k last lt)

-- all columns of a row
pub whole_row : (storage : Storage) (first end row n : ℕ) → n ≡ 50
    → map (shown_at storage first end) (range_with_len row n) ≡ row_cells storage first end row
unfolding row_cells
whole_row storage first end row n e = ap (λ k. map (shown_at storage first end) (range_with_len row k)) e

-- all are so if those in front are all
all_in_front : {X : Type 0} (p : X → Bool) (xs : List X) → list_all p xs ≡ (length xs - prefix_len p xs == 0)
all_in_front p [] = refl
all_in_front p (x ∷ xs) = from (p x) refl (all_in_front p xs)
  where
    some : (n m : ℕ) → n ≡ suc m → false ≡ (n == 0)
    some n m e = grind (arith, e)

    from : (b : Bool) → p x ≡ b → list_all p xs ≡ (length xs - prefix_len p xs == 0)
        → list_all p (x ∷ xs) ≡ (length (x ∷ xs) - prefix_len p (x ∷ xs) == 0)
    from true e more =
        let count : length xs - prefix_len p xs ≡ suc (length xs) - (1 + prefix_len p xs) = omega arith in
        rw e (more ∙ ap (λ n. n == 0) count)
    from false e more = rw e (some (suc (length xs) - 0) (length xs) (omega arith))

all_reversed : {X : Type 0} (p : X → Bool) (xs : List X) → list_all p (reverse xs) ≡ list_all p xs
all_reversed p [] = refl
all_reversed p (x ∷ xs) =
    ap (list_all p) (reverse_onto xs x []) ∙ list_all-append p (reverse xs) (x ∷ [])
    ∙ turned (list_all p (reverse xs)) (list_all p xs) (p x) (all_reversed p xs)
  where
    turned : (a b c : Bool) → a ≡ b → (a && (c && true)) ≡ (c && b)
    turned true b true e = e
    turned true b false e = refl
    turned false b true e = e
    turned false b false e = refl

-- no cell has a word mark if those after the last that has one are all
pub none_marked : (cells : List Cell) → list_all is_unmarked cells ≡ (length cells - suffix_len is_unmarked cells == 0)
none_marked cells =
    sym (all_reversed is_unmarked cells) ∙ all_in_front is_unmarked (reverse cells)
    ∙ ap (λ n. n - suffix_len is_unmarked cells == 0) (length-reverse cells)
