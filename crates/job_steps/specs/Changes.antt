-- What a step changed in core storage (own).
use Rattle.std.specs.Prelude.{◌≡◌, ℕ, ◌+◌, ◌<◌, ◌≤◌, ◌==◌, ◌||◌, not, Bool, true, false, if◌then◌else◌, List, [], ◌∷◌}
use Rattle.std.specs.Prelude.{◌++◌}
use Rattle.std.specs.Prelude.{codes, drop, length, take}
use Rattle.std.specs.List.{concat, flat_map}
use Rattle.bcd_1401.specs.declared.cell.Cell.{Cell}
use Rattle.core_1401.specs.Storage.{Storage, cell_at}
use Rattle.machine_notation.specs.Cells.{cells_text}
use Rattle.machine_notation.specs.Digits.{digits_in}

-- places next to each other, from an address up: their cells before the step, and after it
pub record Change : Type 0 where
  pub address : ℕ
  pub before : List Cell
  pub after : List Cell

abbrev pub change : ℕ → List Cell → List Cell → Change
change address before after = record { address = address; before = before; after = after }

-- whether a place has another character or another word mark
abbrev pub is_changed : Cell → Cell → Bool
is_changed before after = not (before.char == after.char) || (if before.mark then not after.mark else after.mark)

-- a place that changed, with the changes above it: it is part of the first of them if that begins at the next place
abbrev pub in_front : ℕ → Cell → Cell → List Change → List Change
in_front at before after [] = change at (before ∷ []) (after ∷ []) ∷ []
in_front at before after (next ∷ more) =
    if next.address == at + 1 then change at (before ∷ next.before) (after ∷ next.after) ∷ more
    else change at (before ∷ []) (after ∷ []) ∷ next ∷ more

-- the same, if the place changed
abbrev pub with_place : ℕ → Cell → Cell → List Change → List Change
with_place at before after more = if is_changed before after then in_front at before after more else more

-- the changes of places from an address up
unfoldable pub changes_from : ℕ → List Cell → List Cell → List Change
changes_from at [] after = []
changes_from at (x ∷ before) [] = []
changes_from at (x ∷ before) (y ∷ after) = with_place at x y (changes_from (at + 1) before after)

-- the changes of core storage, the lowest address first
abbrev pub changes_of : Storage → Storage → List Change
changes_of before after = changes_from 0 before after

-- a change: its first address, its cells before, its cells after
unfoldable pub change_text : Change → List ℕ
change_text each =
    concat (codes "\t" ∷ digits_in 5 each.address ∷ codes "|" ∷ [])
    ++ cells_text each.before ++ codes "|" ++ cells_text each.after

-- changes, each after a tab
abbrev pub changes_text : List Change → List ℕ
changes_text changes = flat_map change_text changes

-- the next place from one on that changed, or the end of core
pub record IsNextChange (before after : Storage) (from at : ℕ) : Type 0 where
  pub least : from ≤ at
  pub most : at ≤ length after
  pub same : (i : ℕ) → from ≤ i → i < at → is_changed (cell_at before i) (cell_at after i) ≡ false
  pub other : at < length after → is_changed (cell_at before at) (cell_at after at) ≡ true

-- the next place from one on that didn't change, or the end of core
pub record IsEndOfChange (before after : Storage) (from at : ℕ) : Type 0 where
  pub least : from ≤ at
  pub most : at ≤ length after
  pub changed : (i : ℕ) → from ≤ i → i < at → is_changed (cell_at before i) (cell_at after i) ≡ true
  pub other : at < length after → is_changed (cell_at before at) (cell_at after at) ≡ false

-- the change of the places from one up to another
abbrev pub change_at : ℕ → ℕ → Storage → Storage → Change
change_at at n before after = change at (take n (drop at before)) (take n (drop at after))

-- the changes from a place on
abbrev pub changes_on : ℕ → Storage → Storage → List Change
changes_on at before after = changes_from at (drop at before) (drop at after)
