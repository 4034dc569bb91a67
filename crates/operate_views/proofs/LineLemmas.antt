-- Columns of a line.
use Rattle.std.proofs.Common.{◌≡◌, ℕ, ◌+◌, ◌<◌, List, [], ◌∷◌, ◌++◌, length, take}
use Rattle.std.proofs.Common.{drop, ◌∙◌, ap, arith}
use Rattle.std.specs.Str.{IsTrimAsciiEnd}
use Rattle.std.proofs.lemmas.Str.Ascii.{trim_ascii_end_is}
use Rattle.std.proofs.lemmas.List.{get_or-drop, length-drop, take_more}
use Rattle.bcd_1401.specs.declared.cell.Cell.{Cell}
use Rattle.core_1401.specs.Storage.{Storage, blank, cell_at}
use Rattle.operate_views.specs.Lines.{without_last_blanks}

-- what a trim leaves
pub trimmed_end : (whole left : List ℕ) → IsTrimAsciiEnd whole left → left ≡ without_last_blanks whole
trimmed_end whole left h = trim_ascii_end_is whole left h

-- a cell more, from a place up
pub cell_up : (storage : Storage) (at i : ℕ) → at + i < length storage
    → take (i + 1) (drop at storage) ≡ take i (drop at storage) ++ cell_at storage (at + i) ∷ []
cell_up storage at i lt =
    take_more (drop at storage) i blank (omega (arith, length-drop at storage))
    ∙ ap (λ (cell : Cell). take i (drop at storage) ++ cell ∷ []) (get_or-drop at storage i blank)
