-- The places of a field written at once (own).
use Rattle.std.specs.Prelude.{ℕ, ◌+◌, ◌-◌, ◌==◌, ◌&&◌, not, Bool, false, List, length, slice_index_or, map}
use Rattle.std.specs.Prelude.{nat_le, nat_lt, if◌then◌else◌}
use Rattle.std.specs.List.{range_with_len}
use Rattle.bcd_1401.specs.declared.cell.Cell.{Cell}
use Rattle.core_1401.specs.Storage.{Storage, cell_at}

-- whether a place is one of the n from an address down
abbrev pub is_within : ℕ → ℕ → ℕ → Bool
is_within at n place = nat_le place at && nat_lt at (place + n)

-- what a place holds if these cells, units first, are at the n places from an address down
abbrev pub written_cell : Storage → ℕ → ℕ → (ℕ → Cell) → ℕ → Cell
written_cell storage at n cell_of place = if is_within at n place then cell_of (at - place) else cell_at storage place

-- these cells, units first, at the n places from an address down; each other place is as it was
unfoldable pub with_cells : Storage → ℕ → ℕ → (ℕ → Cell) → Storage
with_cells storage at n cell_of = map (written_cell storage at n cell_of) (range_with_len 0 (length storage))

-- the i-th place below an address with another character, and with the word mark that was there
abbrev pub rewritten_cell : Storage → ℕ → (ℕ → ℕ) → ℕ → Cell
rewritten_cell storage at char_of i = record (cell_at storage (at - i)) { char = char_of i }

-- these characters, units first, at the n places from an address down; word marks and other places are as they were
unfoldable pub with_chars : Storage → ℕ → ℕ → (ℕ → ℕ) → Storage
with_chars storage at n char_of = with_cells storage at n (rewritten_cell storage at char_of)

-- the i-th place below an address without its word mark, and with the character that was there
abbrev pub unmarked_place : Storage → ℕ → ℕ → Cell
unmarked_place storage at i = record (cell_at storage (at - i)) { mark = false }

-- whether the characters of pair i differ, counted from the units
abbrev pub is_unequal_pair : Storage → ℕ → ℕ → ℕ → Bool
is_unequal_pair storage a b i = not ((cell_at storage (a - i)).char == (cell_at storage (b - i)).char)

-- the same in a list of characters by address
abbrev pub are_unequal : List ℕ → ℕ → ℕ → ℕ → Bool
are_unequal chars a b i = not (slice_index_or chars (a - i) 0 == slice_index_or chars (b - i) 0)

-- the characters by address
abbrev pub chars_of : Storage → List ℕ
chars_of storage = map (λ (cell : Cell). cell.char) storage

-- a place with its character in a list by address, and with the word mark that was there; past the end of the list as
-- it was
abbrev pub lent_cell : Storage → List ℕ → ℕ → Cell
lent_cell storage chars at = record (cell_at storage at) { char = slice_index_or chars at (cell_at storage at).char }

-- these characters by address, with the word marks that were there
unfoldable pub with_all_chars : Storage → List ℕ → Storage
with_all_chars storage chars = map (lent_cell storage chars) (range_with_len 0 (length storage))
