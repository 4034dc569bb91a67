-- Cells from a place down.
use Rattle.std.proofs.Common.{◌≡◌, ℕ, ◌+◌, ◌-◌, ◌<◌, ◌≤◌, [], ◌∷◌, ◌++◌, length, take, ◌∙◌, ap, arith}
use Rattle.std.proofs.lemmas.List.{length-take-le, take_more}
use Rattle.bcd_1401.specs.declared.cell.Cell.{Cell}
use Rattle.core_1401.specs.Field.{cells_down}
use Rattle.core_1401.specs.Storage.{Storage, blank, cell_at}
use Rattle.core_1401.proofs.FieldLemmas.{get_down, length-down}

-- one cell more
pub cell_more : (storage : Storage) (at i : ℕ) → at < length storage → i ≤ at
    → take (i + 1) (cells_down storage at) ≡ take i (cells_down storage at) ++ cell_at storage (at - i) ∷ []
cell_more storage at i lt le =
    take_more (cells_down storage at) i blank (omega (arith, length-down storage at lt))
    ∙ ap (λ (cell : Cell). take i (cells_down storage at) ++ cell ∷ []) (get_down storage at i blank lt le)

-- as many as are taken
pub taken_down : (storage : Storage) (at n : ℕ) → at < length storage → n ≤ at + 1
    → length (take n (cells_down storage at)) ≡ n
taken_down storage at n lt le = length-take-le n (cells_down storage at) (omega (arith, length-down storage at lt))

pub ruleset cells_from = (cell_more, taken_down)
