-- Characters of a field from its high place on.
use Rattle.std.proofs.Common.{◌≡◌, ℕ, ◌+◌, ◌-◌, ◌<◌, List, [], ◌∷◌, ◌++◌, length, take, map, get_or, reverse}
use Rattle.std.proofs.Common.{sym, ◌∙◌, ap, arith}
use Rattle.std.specs.Prelude.{slice_index}
use Rattle.std.proofs.lemmas.List.{take_more, take-map, get_or-reverse, length-reverse, map-append}
use Rattle.bcd_1401.specs.Graphic.{graphics}
use Rattle.bcd_1401.specs.declared.cell.Cell.{Cell}
use Rattle.core_1401.specs.Storage.{blank}
use Rattle.machine_notation.specs.Characters.{graphics_of}
use Rattle.machine_notation.proofs.CharacterLemmas.{graphics_of-push}
use Rattle.operate_views.specs.FieldText.{characters_down}

-- one character more
taken : (cells : List Cell) (i : ℕ) → i < length cells
    → take (i + 1) (characters_down cells)
    ≡ take i (characters_down cells) ++ (get_or cells (length cells - 1 - i) blank).char ∷ []
taken cells i lt =
    let char : Cell → ℕ = λ (cell : Cell). cell.char in
    take-map char (i + 1) (reverse cells)
    ∙ ap (map char) (take_more (reverse cells) i blank (omega (arith, length-reverse cells)))
    ∙ map-append char (take i (reverse cells)) (get_or (reverse cells) i blank ∷ [])
    ∙ ap (λ (cell : Cell). map char (take i (reverse cells)) ++ char cell ∷ []) (get_or-reverse cells i blank lt)
    ∙ ap (λ (chars : List ℕ). chars ++ char (get_or cells (length cells - 1 - i) blank) ∷ [])
    (sym (take-map char i (reverse cells)))

pub graphic_more : (cells : List Cell) (i : ℕ) → i < length cells
    → graphics_of (take (i + 1) (characters_down cells))
    ≡ graphics_of (take i (characters_down cells))
    ++ slice_index graphics (get_or cells (length cells - 1 - i) blank).char ∷ []
graphic_more cells i lt =
    ap graphics_of (taken cells i lt)
    ∙ graphics_of-push (take i (characters_down cells)) (get_or cells (length cells - 1 - i) blank).char
