-- Cells copied from core storage.
use Rattle.std.proofs.Common.{◌≡◌, ℕ, ◌+◌, ◌<◌, List, [], ◌∷◌, ◌++◌, length, take, drop, set, sym, ◌∙◌, ap, arith}
use Rattle.std.proofs.lemmas.List.{take_more, take_more_set, get_or-drop, length-drop}
use Rattle.bcd_1401.specs.declared.cell.Cell.{Cell}
use Rattle.core_1401.specs.Storage.{blank, cell_at}

-- a cell more in a copy
pub copy_more : (cells storage : List Cell) (at i : ℕ) → i < length cells → at + i < length storage
    → take i cells ≡ take i (drop at storage)
    → take (i + 1) (set cells i (cell_at storage (at + i))) ≡ take (i + 1) (drop at storage)
copy_more cells storage at i room within so_far =
    let inside : i < length (drop at storage) = omega (arith, length-drop at storage, within) in
    take_more_set cells i (cell_at storage (at + i)) room
    ∙ ap (λ (xs : List Cell). xs ++ cell_at storage (at + i) ∷ []) so_far
    ∙ ap (λ (x : Cell). take i (drop at storage) ++ x ∷ []) (sym (get_or-drop at storage i blank))
    ∙ sym (take_more (drop at storage) i blank inside)
