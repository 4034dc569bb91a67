-- Small storages written by graphics.
use Rattle.std.proofs.Common.{ℕ, ◌==◌, Bool, true, false, List, [], ◌∷◌, if◌then◌else◌}
use Rattle.std.specs.List.{position_or_len}
use Rattle.bcd_1401.specs.Graphic.{graphics}
use Rattle.bcd_1401.specs.declared.cell.Cell.{Cell}

-- the cells that these graphics show; the first has this word mark, and each with a ~ in front of it has one
abbrev pub cells_from : Bool → List ℕ → List Cell
cells_from mark [] = []
cells_from mark (graphic ∷ text) =
    if graphic == 126 then cells_from true text
    else (record { char = position_or_len (λ each. each == graphic) graphics; mark = mark }) ∷ cells_from false text

-- a ~ precedes each cell with a word mark
unfoldable pub cells_of : List ℕ → List Cell
cells_of text = cells_from false text
