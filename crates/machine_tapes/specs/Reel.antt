-- A reel of tape as two lists of records: those that the head has passed and those ahead of it (A24-1403, "Magnetic
-- Tape", from memory). Own are the capacity, and that a record that is written is the last one on the reel.
use Rattle.std.specs.Prelude.{ℕ, ◌-◌, ◌==◌, Bool, false, List, [], ◌∷◌, ◌++◌, length, drop, take, reverse}
use Rattle.std.specs.List.{sum_by}

-- the records passed, newest first; those ahead, in order; and how many characters the reel has room for in all. A
-- record is its characters, at least one.
pub record Reel : Type 0 where
  pub passed : List (List ℕ)
  pub ahead : List (List ℕ)
  pub capacity : ℕ

-- all records, in the order in which they are on the tape
abbrev pub records_of : Reel → List (List ℕ)
records_of reel = reverse reel.passed ++ reel.ahead

-- how many characters records have
abbrev pub characters_in : List (List ℕ) → ℕ
characters_in records = sum_by length records

-- the largest capacity: the length of each record is below bit 31
abbrev pub most_characters : ℕ
most_characters = 2147483647

-- a reel of these records at the load point
abbrev pub mounted : List (List ℕ) → ℕ → Reel
mounted records capacity = record { passed = []; ahead = records; capacity = capacity }

-- how many characters can be written from the head on
abbrev pub room_in : Reel → ℕ
room_in reel = reel.capacity - characters_in reel.passed

-- past the next record, if there is one
abbrev pub after_pass : Reel → Reel
after_pass reel = record reel { passed = take 1 reel.ahead ++ reel.passed; ahead = drop 1 reel.ahead }

-- back to the beginning of the record that was passed last, if there is one
abbrev pub after_backspace : Reel → Reel
after_backspace reel = record reel { passed = drop 1 reel.passed; ahead = take 1 reel.passed ++ reel.ahead }

-- at the load point
abbrev pub after_rewind : Reel → Reel
after_rewind reel = record reel { passed = []; ahead = records_of reel }

-- past a record that was written at the head; those that were ahead are gone
abbrev pub after_write : Reel → List ℕ → Reel
after_write reel characters = record reel { passed = characters ∷ reel.passed; ahead = [] }

-- records with one character more in the first
abbrev pub longer_first : List (List ℕ) → ℕ → List (List ℕ)
longer_first [] char = []
longer_first (characters ∷ passed) char = (characters ++ char ∷ []) ∷ passed

-- with one character more in the record that was passed last
abbrev pub after_add : Reel → ℕ → Reel
after_add reel char = record reel { passed = longer_first reel.passed char }

-- the character 8-4-2-1, and the record of it alone, which is a tape mark
abbrev pub mark_char : ℕ
mark_char = 15

abbrev pub tape_mark : List ℕ
tape_mark = mark_char ∷ []

-- whether a record is a tape mark
abbrev pub is_tape_mark : List ℕ → Bool
is_tape_mark [] = false
is_tape_mark (char ∷ []) = char == mark_char
is_tape_mark (char ∷ next ∷ characters) = false
