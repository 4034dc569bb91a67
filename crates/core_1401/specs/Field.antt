-- Fields: from their units place down to the first word mark (A24-1403, "Word Mark").
use Rattle.std.specs.Prelude.{ℕ, ◌+◌, ◌||◌, List, [], drop, take, reverse, Option, position, if◌then◌else◌}
use Rattle.std.specs.Option.{option_map}
use Rattle.std.specs.List.{position_or_len, zip}
use Rattle.bcd_1401.specs.declared.cell.Cell.{Cell}
use Rattle.core_1401.specs.Storage.{Storage, is_in_core}

-- the cells at an address, at the one below it, and so on down to address 0; none if the address isn't in core
abbrev pub cells_down : Storage → ℕ → List Cell
cells_down storage at = if is_in_core storage at then reverse (take (at + 1) storage) else []

-- how many cells there are up to and including the first with a word mark
abbrev pub field_len_of : Storage → ℕ → Option ℕ
field_len_of storage at = option_map (λ i. i + 1) (position (λ (cell : Cell). cell.mark) (cells_down storage at))

-- the field with its units at an address, units first
abbrev pub field_at : Storage → ℕ → Option (List Cell)
field_at storage at = option_map (λ n. take n (cells_down storage at)) (field_len_of storage at)

-- how many pairs of cells there are up to and including the first with a word mark in either
abbrev pub pair_len_of : Storage → ℕ → ℕ → Option ℕ
pair_len_of storage a b =
    option_map (λ i. i + 1) (position (λ (pair : Cell × Cell). pair.0.mark || pair.1.mark)
    (zip (cells_down storage a) (cells_down storage b)))

-- how many places it is from one to the next above it with a word mark, or to the end of core
abbrev pub next_mark_from : Storage → ℕ → ℕ
next_mark_from storage at = position_or_len (λ (cell : Cell). cell.mark) (drop (at + 1) storage) + 1
