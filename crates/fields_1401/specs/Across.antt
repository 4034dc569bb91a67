-- Fields read and written from left to right (own).
use Rattle.std.specs.Prelude.{ℕ, ◌≡◌, ◌⊎◌, ◌<◌, ◌≤◌, ◌+◌, ◌-◌, ◌==◌, false, List, length, map, take, drop, slice_index}
use Rattle.std.specs.Prelude.{if◌then◌else◌}
use Rattle.std.specs.List.{range_with_len}
use Rattle.bcd_1401.specs.Character.{with_zone_of}
use Rattle.bcd_1401.specs.declared.cell.Cell.{Cell}
use Rattle.core_1401.specs.Storage.{Storage, cell_at}
use Rattle.fields_1401.specs.Places.{is_within, with_cells}

-- the n characters that end at an address, the units last
unfoldable pub chars_across : Storage → ℕ → ℕ → List ℕ
chars_across storage at n = map (λ (cell : Cell). cell.char) (take n (drop (at + 1 - n) storage))

-- the character of place i, counted from the left: the units, which come last, without their zone
abbrev pub unzoned_at : List ℕ → ℕ → ℕ
unzoned_at chars i = if i + 1 == length chars then with_zone_of (slice_index chars i) 0 else slice_index chars i

-- the characters with the zone over their units removed
unfoldable pub units_unzoned : List ℕ → List ℕ
units_unzoned chars = map (unzoned_at chars) (range_with_len 0 (length chars))

-- the cell that comes to the i-th place, counted from the units
abbrev pub unmarked_cell : List ℕ → ℕ → Cell
unmarked_cell chars i = record { char = slice_index chars (length chars - 1 - i); mark = false }

-- these characters without word marks at the places that end at an address; each other place is as it was
unfoldable pub with_across : Storage → ℕ → List ℕ → Storage
with_across storage at chars = with_cells storage at (length chars) (unmarked_cell chars)

-- the character that comes to the i-th place, counted from the units
abbrev pub char_to : List ℕ → ℕ → ℕ
char_to chars i = slice_index chars (length chars - 1 - i)

-- in a list of characters by address, the i-th below an address: the units without their zone
abbrev pub unzoned_down : List ℕ → ℕ → ℕ → ℕ
unzoned_down chars at i = if i == 0 then with_zone_of (slice_index chars (at - i)) 0 else slice_index chars (at - i)

-- there is no word mark at the n places that end at an address
abbrev pub IsUnmarked : Storage → ℕ → ℕ → Type 0
IsUnmarked storage at n = (i : ℕ) → i < n → (cell_at storage (at - i)).mark ≡ false

-- each place but the n that end at an address is as it was
abbrev pub IsSameOutside : Storage → Storage → ℕ → ℕ → Type 0
IsSameOutside old new at n = (place : ℕ) → is_within at n place ≡ false → cell_at new place ≡ cell_at old place

-- what an operation leaves that wrote from an address down to the place above another, where its register is then: each
-- place above the first is as it was, and each from the other down, unless that went over the end of core
abbrev pub IsSameBeside : Storage → Storage → ℕ → ℕ → Type 0
IsSameBeside old new at below =
    (place : ℕ) → (at < place) ⊎ ((below < at) × (place ≤ below)) → cell_at new place ≡ cell_at old place
