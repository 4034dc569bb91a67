-- What the text of a reel, a .tap file of SIMH, begins with. Bit 6 of a character, its parity, and the byte after a
-- record of odd length can be anything. The faults are own.
use Rattle.std.specs.Prelude.{◌≡◌, ℕ, ◌+◌, ◌%◌, ◌<◌, ◌≤◌, ◌==◌, nat_le, nat_lt, Bool, List, [], ◌∷◌, take, drop, length}
use Rattle.std.specs.Prelude.{Option, None, Some, if◌then◌else◌}
use Rattle.std.specs.Int.{w32, from_le_bytes}
use Rattle.std.specs.List.{prefix_len}
use Rattle.machine_tapes.specs.declared.fault.TapFault.{TapFault}
use Rattle.machine_tapes.specs.declared.fault.TapFault.TheVariants.{Cut, Flagged, Unequal, Character}
use Rattle.machine_tapes.specs.Held.{characters_of}
use Rattle.machine_tapes.specs.Reel.{tape_mark}

-- the number that the first four bytes are, the low byte first; none if there are fewer
unfoldable pub number_in : List ℕ → Option ℕ
number_in [] = None
number_in (a ∷ []) = None
number_in (a ∷ b ∷ []) = None
number_in (a ∷ b ∷ c ∷ []) = None
number_in (a ∷ b ∷ c ∷ d ∷ rest) = Some (from_le_bytes w32 (a ∷ b ∷ c ∷ d ∷ []))

-- the length that ends the tape, and the least length with bit 31
abbrev pub end_length : ℕ
end_length = 4294967295

abbrev pub flag : ℕ
flag = 2147483648

-- how many bytes the characters of a record of this length take, the byte after an odd length included
abbrev pub padded : ℕ → ℕ
padded n = n + n % 2

-- whether a byte is a character: six bits, and one of parity
abbrev pub is_character : ℕ → Bool
is_character byte = nat_lt byte 128

-- what a text begins with
pub data Front : Type 0 where
  -- a record of these characters, which takes this many bytes
  Holds : List ℕ → ℕ → Front
  -- the end of the tape
  Ends : Front
  -- a fault
  Fails : TapFault → Front

-- a record of this length and these bytes, if all of them are characters; its first length begins at this byte
abbrev pub front_of : ℕ → ℕ → List ℕ → Front
front_of at n bytes =
    if nat_lt (prefix_len is_character bytes) n then Fails (Character (at + 4 + prefix_len is_character bytes))
    else Holds (characters_of bytes) (4 + padded n + 4)

-- the same, if the length after the bytes is the one before them
abbrev pub front_between : ℕ → ℕ → List ℕ → Option ℕ → Front
front_between at n bytes None = Fails (Cut at)
front_between at n bytes (Some after) =
    if after == n then front_of at n bytes else Fails (Unequal (at + (4 + padded n)))

-- a record of this length at the front of a text
unfoldable pub front_sized : ℕ → List ℕ → ℕ → Front
front_sized at text n = front_between at n (take n (drop 4 text)) (number_in (drop (4 + padded n) text))

-- by the length that the text begins with
abbrev pub front_by : ℕ → List ℕ → Option ℕ → Front
front_by at text None = Fails (Cut at)
front_by at text (Some n) =
    if n == 0 then Holds tape_mark 4
    else (if n == end_length then Ends
    else (if nat_le flag n then Fails (Flagged at)
    else front_sized at text n))

-- what a text begins with; its first byte has this number
unfoldable pub front_in : ℕ → List ℕ → Front
front_in at [] = Ends
front_in at (byte ∷ bytes) = front_by at (byte ∷ bytes) (number_in (byte ∷ bytes))

-- The text begins with a record of these bytes, and the rest follows it.
pub record BeginsWithRecord (at : ℕ) (text bytes beyond : List ℕ) : Type 0 where
  pub size : ℕ
  pub front : front_in at text ≡ Holds (characters_of bytes) size
  pub rest : beyond ≡ drop size text
  pub some : 0 < length bytes
  pub more : length bytes + length beyond < length text
  pub inside : size ≤ length text

-- The same for a record of this length, which is no tape mark.
pub record BeginsWithSized (at : ℕ) (text : List ℕ) (n : ℕ) (bytes beyond : List ℕ) : Type 0 where
  pub front : front_sized at text n ≡ Holds (characters_of bytes) (4 + padded n + 4)
  pub rest : beyond ≡ drop (4 + padded n + 4) text
  pub sized : length bytes ≡ n
  pub inside : 4 + padded n + 4 ≤ length text
