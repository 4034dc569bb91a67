-- A field as `print` shows it: its name if it has one, its places, its characters, and its number if it is one (own).
use Rattle.std.specs.Prelude.{ℕ, ◌+◌, ◌-◌, ◌==◌, nat_lt, Bool, if◌then◌else◌, List, [], ◌∷◌, ◌++◌, codes, length, map}
use Rattle.std.specs.Prelude.{reverse, take}
use Rattle.std.specs.List.{concat}
use Rattle.bcd_1401.specs.declared.cell.Cell.{Cell}
use Rattle.machine_notation.specs.Characters.{graphics_of}
use Rattle.machine_notation.specs.Digits.{digits_in}
use Rattle.operate_views.specs.NumberText.{is_number, number_text}

-- the most places of a field whose characters are all shown
abbrev pub most_shown : ℕ
most_shown = 60

-- how many are shown of a longer one
abbrev pub first_shown : ℕ
first_shown = 57

-- whether not all characters are shown
abbrev pub is_long : List Cell → Bool
is_long cells = nat_lt most_shown (length cells)

-- a name, and two blanks
abbrev pub name_text : List ℕ → List ℕ
name_text [] = []
name_text (letter ∷ name) = (letter ∷ name) ++ codes "  "

-- n places down from one: the lowest and the highest of them
unfoldable pub places_text : ℕ → ℕ → List ℕ
places_text at n = if n == 1 then digits_in 5 at else digits_in 5 (at + 1 - n) ++ codes "-" ++ digits_in 5 at

-- the characters of cells, units first, from the high place on, by their graphics
abbrev pub characters_down : List Cell → List ℕ
characters_down cells = map (λ (cell : Cell). cell.char) (reverse cells)

unfoldable pub characters_text : List Cell → List ℕ
characters_text cells =
    if is_long cells
    then graphics_of (take first_shown (characters_down cells))
    ++ concat (codes "..  (" ∷ digits_in 1 (length cells) ∷ codes " places)" ∷ [])
    else graphics_of (take (length cells) (characters_down cells))

-- the number, if the cells are one
unfoldable pub equals_text : List Cell → List ℕ
equals_text cells = if is_number cells then codes "  = " ++ number_text cells else []

-- the line of the field with its units at a place, whose cells are these, units first
unfoldable pub field_text : List ℕ → ℕ → List Cell → List ℕ
field_text name at cells =
    name_text name ++ places_text at (length cells) ++ codes "  " ++ characters_text cells ++ equals_text cells

-- a field, by its name or by its places, that changed: its characters before and after, both given units first
unfoldable pub change_text : List ℕ → List Cell → List Cell → List ℕ
change_text name before after =
    name ++ codes " " ++ graphics_of (take (length before) (characters_down before)) ++ codes " -> "
    ++ graphics_of (take (length after) (characters_down after))
