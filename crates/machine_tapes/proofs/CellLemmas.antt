-- The cells of a record, character by character.
use Rattle.std.proofs.Common.{◌≡◌, ℕ, ◌+◌, ◌<◌, ◌≤◌, Bool, true, false, List, [], ◌∷◌, length, drop, get_or, ap, ◌∙◌}
use Rattle.std.specs.Prelude.{if◌then◌else◌}
use Rattle.std.proofs.lemmas.List.{at_drop_all, at_drop_more}
use Rattle.bcd_1401.specs.declared.cell.Cell.{Cell}
use Rattle.machine_tapes.specs.TapeText.{cells_from, is_separator, read_char}
use Rattle.machine_tapes.specs.declared.work.TapeMode.{TapeMode}

-- what a character becomes that is no word separator
abbrev pub cell_of : Bool → Bool → ℕ → Cell
cell_of is_odd is_marked char = record { char = read_char is_odd char; mark = is_marked }

-- the next character is a word separator
pub separator_next : (how : TapeMode) (is_odd is_marked : Bool) (chars : List ℕ) (i : ℕ) → i < length chars
    → is_separator how is_marked (get_or chars i 0) ≡ true
    → cells_from how is_odd is_marked (drop i chars) ≡ cells_from how is_odd true (drop (i + 1) chars)
separator_next how is_odd is_marked chars i lt is =
    at_drop_more (cells_from how is_odd is_marked) chars i 0 lt
    ∙ ap (λ (b : Bool). if b then cells_from how is_odd true (drop (i + 1) chars)
    else cell_of is_odd is_marked (get_or chars i 0) ∷ cells_from how is_odd false (drop (i + 1) chars)) is

-- or it is a cell's
pub cell_next : (how : TapeMode) (is_odd is_marked : Bool) (chars : List ℕ) (i : ℕ) → i < length chars
    → is_separator how is_marked (get_or chars i 0) ≡ false → cells_from how is_odd is_marked (drop i chars)
    ≡ cell_of is_odd is_marked (get_or chars i 0) ∷ cells_from how is_odd false (drop (i + 1) chars)
cell_next how is_odd is_marked chars i lt is =
    at_drop_more (cells_from how is_odd is_marked) chars i 0 lt
    ∙ ap (λ (b : Bool). if b then cells_from how is_odd true (drop (i + 1) chars)
    else cell_of is_odd is_marked (get_or chars i 0) ∷ cells_from how is_odd false (drop (i + 1) chars)) is

-- or there is none
pub none_next : (how : TapeMode) (is_odd is_marked : Bool) (chars : List ℕ) (i : ℕ) → length chars ≤ i
    → cells_from how is_odd is_marked (drop i chars) ≡ []
none_next how is_odd is_marked chars i le = at_drop_all (cells_from how is_odd is_marked) chars i le
