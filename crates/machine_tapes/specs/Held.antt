-- A reel as bytes (own): a byte for each character, with bit 7 on in the first of each record. The six low bits are the
-- character.
use Rattle.std.specs.Prelude.{◌≡◌, ℕ, suc, ◌%◌, ◌≤◌, Bool, ◌&&◌, List, [], ◌∷◌, length, reverse, map, nat_le}
use Rattle.std.specs.Prelude.{nat_lt, slice_range, if◌then◌else◌}
use Rattle.std.specs.List.{list_all, prefix_len, take_while}
use Rattle.machine_tapes.specs.Reel.{Reel, most_characters}

-- whether a byte is the first of a record, or one of the others
abbrev pub begins : ℕ → Bool
begins byte = nat_le 128 byte

abbrev pub goes_on : ℕ → Bool
goes_on byte = nat_lt byte 128

-- the characters of bytes
abbrev pub characters_of : List ℕ → List ℕ
characters_of bytes = map (λ byte. byte % 64) bytes

-- the records of bytes
unfoldable pub records_in : List ℕ → List (List ℕ)
records_in [] = []
records_in (byte ∷ bytes) =
    if begins byte then characters_of (byte ∷ take_while goes_on bytes) ∷ records_in bytes else records_in bytes

-- how many bytes the first record takes
abbrev pub first_size : List ℕ → ℕ
first_size [] = 0
first_size (byte ∷ bytes) = suc (prefix_len goes_on bytes)

-- The first byte begins a record, unless there is none.
abbrev pub IsWhole : List ℕ → Type 0
IsWhole bytes = prefix_len goes_on bytes ≡ 0

-- the reel that bytes hold: the records below the head are passed, and those from there to the end are ahead
abbrev pub held : List ℕ → ℕ → ℕ → Reel
held bytes head end = record {
  passed = reverse (records_in (slice_range bytes 0 head));
  ahead = records_in (slice_range bytes head end);
  capacity = length bytes;
}

-- what always holds of the bytes, the head and the end of a reel
pub record IsWound (bytes : List ℕ) (head end : ℕ) : Type 0 where
  pub passed : IsWhole (slice_range bytes 0 head)
  pub ahead : IsWhole (slice_range bytes head end)
  pub order : head ≤ end
  pub inside : end ≤ length bytes
  pub most : length bytes ≤ most_characters

-- whether a record is one of a tape: of at least one character, each 0 to 63, and of no more than a reel can have
abbrev pub is_record : List ℕ → Bool
is_record characters =
    nat_le 1 (length characters) && nat_le (length characters) most_characters
    && list_all (λ char. nat_lt char 64) characters
