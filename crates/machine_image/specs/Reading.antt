-- Reading the text of an image from left to right (own): each part is a value and what follows it.
use Rattle.std.specs.Prelude.{◌≡◌, ℕ, ◌==◌, nat_le, nat_lt, Bool, true, false, ◌&&◌, if◌then◌else◌, List}
use Rattle.std.specs.Prelude.{[], ◌∷◌, ◌++◌, length, take, drop, Option, None, Some, Result, Ok, Err}
use Rattle.std.specs.Prelude.{IsOk, option_and_then, codes}
use Rattle.std.specs.Option.{option_map, option_or}
use Rattle.std.specs.Result.{result_ok}
use Rattle.std.specs.List.{slice_split}
use Rattle.bcd_1401.specs.declared.cell.Cell.{Cell}
use Rattle.machine_notation.specs.Cells.{cells_of, spelled}
use Rattle.machine_notation.specs.Digits.{number_in}
use Rattle.machine_notation.specs.Prefix.{after_prefix}
use Rattle.machine_image.specs.declared.fault.ImageFault.{ImageFault}
use Rattle.machine_image.specs.declared.fault.ImageFault.TheVariants.{Memory, Header, BadRecord, Range, Truncated}
use Rattle.machine_image.specs.declared.image.Image.{Image}
use Rattle.machine_image.specs.declared.image.Segment.{Segment}
use Rattle.machine_image.specs.declared.reading.Spelled.{Spelled}
use Rattle.machine_image.specs.declared.version.Version.{Version}
use Rattle.machine_image.specs.declared.version.Version.TheVariants.{One, Two}
use Rattle.machine_image.specs.Image.{is_inside}
use Rattle.machine_image.specs.Version.{name_of, address_digits, has_size}

infixl 10 ◌>>=◌
abbrev pub ◌>>=◌ : {A B : Type 0} → Option A → (A → Option B) → Option B
o >>= f = option_and_then f o

-- a number of this many digits at the front
unfoldable pub number_at : ℕ → List ℕ → Option (ℕ × List ℕ)
number_at places text =
    if nat_le places (length text)
    then option_map (λ number. (number, drop places text)) (number_in (take places text))
    else None

-- the 1 to 40 cells that all of the text spells
abbrev pub few_cells_in : List ℕ → Option (List Cell)
few_cells_in text = result_ok (cells_of (spelled text))

-- the size that a header of this version names
unfoldable pub header_with : Version → List ℕ → Option ℕ
header_with version line = do
  text ← after_prefix (name_of version) line
  size ← number_at (address_digits version) text
  if nat_le (length size.1) 0 && has_size version size.0 then Some size.0 else None

-- a version with the size that was read in it
abbrev pub in_version : Version → Option ℕ → Option (Version × ℕ)
in_version version size = option_map (λ size. (version, size)) size

-- the version and the size that a header names
unfoldable pub header_in : List ℕ → Option (Version × ℕ)
header_in line = option_or (in_version One (header_with One line)) (in_version Two (header_with Two line))

-- a segment
unfoldable pub segment_in : Version → List ℕ → Option Segment
segment_in version line = do
  address ← number_at (address_digits version) line
  text ← after_prefix (codes " ") address.1
  count ← number_at 2 text
  text ← after_prefix (codes " ") count.1
  cells ← few_cells_in text
  if length cells == count.0 then Some (record { address = address.0; cells = cells }) else None

-- a segment as its line spells it
abbrev pub as_segment : Spelled → Segment
as_segment spelled = record { address = spelled.address; cells = spelled.cells }

-- a segment that lies in core storage of this size
abbrev pub inside_of : ℕ → Segment → Result Segment ImageFault
inside_of size segment = if is_inside size segment then Ok segment else Err Range

-- the entry
unfoldable pub end_in : Version → List ℕ → Option ℕ
end_in version line = do
  text ← after_prefix (codes "END ") line
  start ← number_at (address_digits version) text
  if nat_le (length start.1) 0 then Some start.0 else None

-- the parts of a text between its line feeds: its lines, and last what follows the last line feed
abbrev pub parts_of : List ℕ → List (List ℕ)
parts_of text = slice_split (λ byte. byte == 10) text

-- whether no byte is left
abbrev pub is_done : List (List ℕ) → Bool
is_done [] = true
is_done ([] ∷ []) = true
is_done ([] ∷ part ∷ parts) = false
is_done ((byte ∷ bytes) ∷ parts) = false

-- segments and an entry
abbrev pub Contents : Type 0
Contents = List Segment × ℕ

-- the contents with segments in front
abbrev pub with_segments : List Segment → Result Contents ImageFault → Result Contents ImageFault
with_segments segments (Ok contents) = Ok (segments ++ contents.0, contents.1)
with_segments segments (Err fault) = Err fault

-- an entry by itself
abbrev pub entry_alone : Result ℕ ImageFault → Result Contents ImageFault
entry_alone (Ok start) = Ok ([], start)
entry_alone (Err fault) = Err fault

-- by the entry that a line names, if it does, and what is left after that line
abbrev pub entry_by : ℕ → Option ℕ → List (List ℕ) → Result ℕ ImageFault
entry_by size None parts = Err BadRecord
entry_by size (Some start) parts =
    if nat_lt start size then (if is_done parts then Ok start else Err BadRecord) else Err Range

-- by the segment that a line is, if it is one, what is read after it, and what is read if it isn't
abbrev pub contents_by : ℕ → Option Segment → Result Contents ImageFault → Result ℕ ImageFault
    → Result Contents ImageFault
contents_by size (Some segment) more entry =
    if is_inside size segment then with_segments (segment ∷ []) more else Err Range
contents_by size None more entry = entry_alone entry

-- after the header
unfoldable pub contents_in : Version → ℕ → List (List ℕ) → Result Contents ImageFault
contents_in version size [] = Err Truncated
contents_in version size (part ∷ []) = Err Truncated
contents_in version size (line ∷ next ∷ parts) =
    contents_by size (segment_in version line) (contents_in version size (next ∷ parts))
    (entry_by size (end_in version line) (next ∷ parts))

-- an image of this size
abbrev pub image_of : ℕ → Result Contents ImageFault → Result Image ImageFault
image_of size (Ok contents) = Ok (record { size = size; segments = contents.0; start = contents.1 })
image_of size (Err fault) = Err fault

-- by the header, and what follows it
abbrev pub image_by : Option (Version × ℕ) → List (List ℕ) → Result Image ImageFault
image_by None parts = Err Header
image_by (Some header) parts = image_of header.1 (contents_in header.0 header.1 parts)

-- all of the text
unfoldable pub image_in : List (List ℕ) → Result Image ImageFault
image_in [] = Err Truncated
image_in (part ∷ []) = Err Truncated
image_in (header ∷ next ∷ parts) = image_by (header_in header) (next ∷ parts)

-- what a call answers for what is read: that, or if an image is read, that memory was refused
abbrev pub Gives : {X : Type 0} → Result X ImageFault → Result X ImageFault → Type 0
Gives (Ok found) read = read ≡ Ok found
Gives (Err Memory) read = IsOk read
Gives (Err Header) read = read ≡ Err Header
Gives (Err BadRecord) read = read ≡ Err BadRecord
Gives (Err Range) read = read ≡ Err Range
Gives (Err Truncated) read = read ≡ Err Truncated

-- a fault that is the text's own
abbrev pub IsOfText : ImageFault → Type 0
IsOfText Memory = ⊥
IsOfText Header = Unit {0}
IsOfText BadRecord = Unit {0}
IsOfText Range = Unit {0}
IsOfText Truncated = Unit {0}
