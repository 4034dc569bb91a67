-- The text of a reel, as SIMH keeps it in a .tap file: each record between its length and its length once more, in four
-- bytes each with the low byte first, and a byte 0 after a record of an odd length. A tape mark is the length 0, once.
use Rattle.std.specs.Prelude.{ℕ, ◌%◌, ◌==◌, List, [], ◌∷◌, ◌++◌, length, if◌then◌else◌}
use Rattle.std.specs.Int.{w32, to_le_bytes}
use Rattle.std.specs.List.{flat_map}
use Rattle.machine_tapes.specs.Reel.{is_tape_mark}

-- a length in four bytes, the low byte first
unfoldable pub length_text : ℕ → List ℕ
length_text n = to_le_bytes w32 n

-- the byte after a record of an odd length
unfoldable pub odd_byte : ℕ → List ℕ
odd_byte n = if n % 2 == 0 then [] else 0 ∷ []

-- bytes of a record between its lengths, with what follows an odd number of them
abbrev pub between_lengths : List ℕ → List ℕ → List ℕ
between_lengths bytes odd = length_text (length bytes) ++ bytes ++ odd ++ length_text (length bytes)

-- the text of a record that isn't a tape mark
abbrev pub data_text : List ℕ → List ℕ
data_text characters = between_lengths characters (odd_byte (length characters))

-- the text of a record
unfoldable pub record_text : List ℕ → List ℕ
record_text characters = if is_tape_mark characters then length_text 0 else data_text characters

-- the text of records, in order
unfoldable pub tap_text : List (List ℕ) → List ℕ
tap_text records = flat_map record_text records
