-- Reading the text of a reel, a .tap file of SIMH: record after record, to the end of the text or to a length of all
-- ones. Any other text is refused (own).
use Rattle.std.specs.Prelude.{◌≡◌, ℕ, zero, suc, ◌+◌, ◌-◌, nat_le, List, [], ◌∷◌, Result, Ok, Err, IsOk, max}
use Rattle.std.specs.Prelude.{if◌then◌else◌}
use Rattle.machine_tapes.specs.declared.fault.TapFault.{TapFault}
use Rattle.machine_tapes.specs.declared.fault.TapFault.TheVariants.{Memory, Cut, Flagged, Unequal, Character, Long}
use Rattle.machine_tapes.specs.Front.{Front, Holds, Ends, Fails, front_in}
use Rattle.machine_tapes.specs.Reel.{Reel, characters_in, mounted, most_characters}

-- what is read of a text: its records, or its first fault
abbrev pub Read : Type 0
Read = Result (List (List ℕ)) TapFault

-- a record in front of what is read after it
abbrev pub with_first : List ℕ → Read → Read
with_first characters (Ok records) = Ok (characters ∷ records)
with_first characters (Err fault) = Err fault

-- by what the text begins with, and what is read of the text after its first byte, where the record goes on for so many
-- bytes
abbrev pub read_by : Front → (ℕ → Read) → Read
read_by (Holds characters size) rest = with_first characters (rest (size - 1))
read_by Ends rest = Ok []
read_by (Fails fault) rest = Err fault

-- what is read of a text; its first byte has this number, and so many bytes of it belong to the record before
unfoldable pub read_from : ℕ → ℕ → List ℕ → Read
read_from at skipped [] = Ok []
read_from at zero (byte ∷ bytes) =
    read_by (front_in at (byte ∷ bytes)) (λ more. read_from (at + 1) more bytes)
read_from at (suc skipped) (byte ∷ bytes) = read_from (at + 1) skipped bytes

-- the records, if there is no fault
abbrev pub records_or_none : Read → List (List ℕ)
records_or_none (Ok records) = records
records_or_none (Err fault) = []

-- how many characters were counted, those of the records included
abbrev pub counted_on : ℕ → Read → Result ℕ TapFault
counted_on count (Ok records) = Ok (count + characters_in records)
counted_on count (Err fault) = Err fault

-- the same, unless the records have more characters than a reel can have
abbrev pub in_reel : Read → Read
in_reel (Ok records) = if nat_le (characters_in records) most_characters then Ok records else Err Long
in_reel (Err fault) = Err fault

-- what is read of a whole text
abbrev pub records_read : List ℕ → Read
records_read text = in_reel (read_from 0 0 text)

-- a reel at the load point with these records, and this capacity, or as many characters as they have if that is more
abbrev pub reel_with : List (List ℕ) → ℕ → Reel
reel_with records capacity = mounted records (max capacity (characters_in records))

-- what a call answers for what is read: its reel, its fault, or, if it has no fault, that memory was refused
abbrev pub Gives : Result Reel TapFault → ℕ → Read → Type 0
Gives (Ok reel) capacity read = (read ≡ Ok reel.ahead) × (reel ≡ reel_with reel.ahead capacity)
Gives (Err Memory) capacity read = IsOk read
Gives (Err (Cut at)) capacity read = read ≡ Err (Cut at)
Gives (Err (Flagged at)) capacity read = read ≡ Err (Flagged at)
Gives (Err (Unequal at)) capacity read = read ≡ Err (Unequal at)
Gives (Err (Character at)) capacity read = read ≡ Err (Character at)
Gives (Err Long) capacity read = read ≡ Err Long

-- a fault of the text itself
abbrev pub IsOfText : TapFault → Type 0
IsOfText Memory = ⊥
IsOfText (Cut at) = Unit {0}
IsOfText (Flagged at) = Unit {0}
IsOfText (Unequal at) = Unit {0}
IsOfText (Character at) = Unit {0}
IsOfText Long = Unit {0}
