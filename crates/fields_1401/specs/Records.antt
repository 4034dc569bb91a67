-- Records moved from left to right (A24-1403, "Move Characters to Record Mark or Group Mark-Word Mark", from memory; the
-- refusals, and what a record that is moved into itself becomes, are own).
use Rattle.std.specs.Prelude.{◌≡◌, ℕ, ◌+◌, ◌-◌, ◌%◌, ◌==◌, ◌<◌, ◌&&◌, ◌||◌, max, nat_le, nat_lt, Bool, false, Option, Some, None}
use Rattle.std.specs.Prelude.{List, Ok, Err, length, map, position, option_map, slice_index_or, if◌then◌else◌}
use Rattle.std.specs.List.{range_with_len}
use Rattle.bcd_1401.specs.declared.cell.Cell.{Cell}
use Rattle.core_1401.specs.Address.{addresses}
use Rattle.core_1401.specs.Storage.{Storage, cell_at}
use Rattle.fields_1401.specs.declared.done.FieldStop.TheVariants.{Address}
use Rattle.fields_1401.specs.Outcome.{Outcome, registers_of}

-- the record mark, A-8-2
abbrev pub record_mark : ℕ
record_mark = 26

-- the group mark, BA-8-7
abbrev pub group_mark : ℕ
group_mark = 63

-- The place whose character comes to the i-th place from b up, where each character is moved after the one to its left.
-- If b is p places above a, what is moved from p places on was moved there before: so the first p characters repeat.
abbrev pub record_source : ℕ → ℕ → ℕ → ℕ
record_source a b i = if nat_lt a b then a + i % (b - a) else a + i

-- the character that comes to the i-th place
abbrev pub record_char : Storage → ℕ → ℕ → ℕ → ℕ
record_char storage a b i = (cell_at storage (record_source a b i)).char

-- whether a character that comes from a place is the last: a record mark, or a group mark if the place has a word mark
abbrev pub ends_record : Storage → ℕ → ℕ → Bool
ends_record storage char at = (char == record_mark) || ((char == group_mark) && (cell_at storage at).mark)

-- whether the i-th character is
abbrev pub is_record_end : Storage → ℕ → ℕ → ℕ → Bool
is_record_end storage a b i = ends_record storage (record_char storage a b i) (a + i)

-- no character at one of the n places from one up is the last there
abbrev pub NoneEnds : Storage → ℕ → ℕ → Type 0
NoneEnds storage at n = (i : ℕ) → i < n → ends_record storage (cell_at storage (at + i)).char (at + i) ≡ false

-- whether a character is a record mark or a group mark
abbrev pub is_mark : ℕ → Bool
is_mark char = (char == record_mark) || (char == group_mark)

-- none of the n characters from one up in a list is
abbrev pub AreNoMarks : List ℕ → ℕ → ℕ → Type 0
AreNoMarks chars at n = (i : ℕ) → i < n → is_mark (slice_index_or chars (at + i) 0) ≡ false

-- how many places there are from either address up to the end of core
abbrev pub places_above : Storage → ℕ → ℕ → ℕ
places_above storage a b = length storage - max a b

-- how many characters are moved, the last among them; none if there is no last one in core
unfoldable pub record_len_of : Storage → ℕ → ℕ → Option ℕ
record_len_of storage a b =
    option_map (λ i. i + 1) (position (is_record_end storage a b) (range_with_len 0 (places_above storage a b)))

-- whether a place is one of the n from an address up
abbrev pub is_within_up : ℕ → ℕ → ℕ → Bool
is_within_up at n place = nat_le at place && nat_lt place (at + n)

-- a place with another character, and with the word mark that was there
abbrev pub cell_up : Storage → ℕ → ℕ → (ℕ → ℕ) → ℕ → Cell
cell_up storage at n char_of place =
    if is_within_up at n place then record (cell_at storage place) { char = char_of (place - at) }
    else cell_at storage place

-- these characters, from the left, at the n places from an address up; word marks and other places are as they were
unfoldable pub with_chars_up : Storage → ℕ → ℕ → (ℕ → ℕ) → Storage
with_chars_up storage at n char_of = map (cell_up storage at n char_of) (range_with_len 0 (length storage))

-- n characters moved
unfoldable pub record_moved : Storage → ℕ → ℕ → ℕ → Storage
record_moved storage a b n = with_chars_up storage b n (record_char storage a b)

-- the address that many places above, modulo 16,000
abbrev pub above_by : ℕ → ℕ → ℕ
above_by at by = (at + by) % addresses

-- the same with the registers after both records, if there is a last character
abbrev pub move_record_by : Storage → ℕ → ℕ → Option ℕ → Outcome
move_record_by storage a b None = Err Address
move_record_by storage a b (Some n) = Ok (record_moved storage a b n, registers_of (above_by a n) (above_by b n))

-- the record at a moved to b
unfoldable pub record_at : Storage → ℕ → ℕ → Outcome
record_at storage a b = move_record_by storage a b (record_len_of storage a b)
