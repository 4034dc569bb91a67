-- The cells of some places, one by one.
use Rattle.std.proofs.Common.{◌≡◌, ℕ, ◌+◌, ◌<◌, zero, suc, List, [], ◌∷◌, ◌++◌, length, drop, get_or, slice_set}
use Rattle.std.proofs.Common.{refl, ap, sym, ◌∙◌, arith, append_assoc}
use Rattle.std.proofs.lemmas.List.{drop_more, set_at}
use Rattle.bcd_1401.specs.declared.cell.Cell.{Cell}
use Rattle.core_1401.specs.Storage.{Storage, blank, cell_at}
use Rattle.operate_sitting.specs.PlaceWatch.{cells_in}

length-cells_in : (storage : Storage) (from count : ℕ) → length (cells_in storage from count) ≡ count
length-cells_in storage from zero = refl
length-cells_in storage from (suc count) = ap suc (length-cells_in storage (from + 1) count)

-- one place more
cells_in-push : (storage : Storage) (from count : ℕ)
    → cells_in storage from (count + 1) ≡ cells_in storage from count ++ cell_at storage (from + count) ∷ []
cells_in-push storage from zero = ap (λ place. cell_at storage place ∷ []) (omega arith)
cells_in-push storage from (suc count) =
    let first : List Cell = cells_in storage from (suc count) in
    let more : suc count + 1 ≡ suc (count + 1) = omega arith in
    ap (λ n. cells_in storage from n) more
    ∙ ap (λ (cells : List Cell). cell_at storage from ∷ cells) (cells_in-push storage (from + 1) count)
    ∙ ap (λ place. first ++ cell_at storage place ∷ []) (omega arith)

-- one place more is written down
pub written-more : (storage : Storage) (from i : ℕ) (before cells : List Cell) (cell : Cell) → i < length before
    → cell ≡ cell_at storage (from + i) → cells ≡ cells_in storage from i ++ drop i before
    → slice_set cells i cell ≡ cells_in storage from (i + 1) ++ drop (i + 1) before
written-more storage from i before cells cell h cell_is so_far =
    let front : List Cell = cells_in storage from i in
    let rest : List Cell = drop (i + 1) before in
    ap (λ (xs : List Cell). slice_set xs i cell) so_far
    ∙ ap (λ (xs : List Cell). slice_set (front ++ xs) i cell) (drop_more before i blank h)
    ∙ set_at front (get_or before i blank) rest cell i (length-cells_in storage from i)
    ∙ ap (λ (last : Cell). front ++ last ∷ rest) cell_is
    ∙ sym (append_assoc front (cell_at storage (from + i) ∷ []) rest)
    ∙ ap (λ (xs : List Cell). xs ++ rest) (sym (cells_in-push storage from i))
