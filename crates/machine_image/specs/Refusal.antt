-- What is wrong with a text that is no image's (own): the first wrong line decides, and what a line is wrong in is said
-- by the texts of right lines alone. A text is given by its parts between line feeds: its lines, and last what
-- follows the last line feed, which is empty if the text ends with one.
use Rattle.std.specs.Prelude.{◌≡◌, ◌≢◌, ℕ, ◌^◌, ◌<◌, ◌≤◌, true, false, List, [], ◌∷◌}
use Rattle.machine_image.specs.declared.fault.ImageFault.{ImageFault}
use Rattle.machine_image.specs.declared.fault.ImageFault.TheVariants.{Memory, Header, BadRecord, Range, Truncated}
use Rattle.machine_image.specs.declared.image.Image.{Image}
use Rattle.machine_image.specs.declared.image.Segment.{Segment}
use Rattle.machine_image.specs.declared.version.Version.{Version}
use Rattle.machine_image.specs.Image.{is_inside}
use Rattle.machine_image.specs.ImageText.{header_text, segment_text, end_text, is_segment, IsTextOf}
use Rattle.machine_image.specs.Reading.{is_done, parts_of}
use Rattle.machine_image.specs.Version.{address_digits, has_size}

-- the line is that of no segment, wherever it would lie, and of no entry
pub record IsNoRecord (version : Version) (line : List ℕ) : Type 0 where
  pub segment : (segment : Segment) → is_segment segment ≡ true → segment.address < 10 ^ address_digits version
      → line ≢ segment_text version segment
  pub end : (start : ℕ) → start < 10 ^ address_digits version → line ≢ end_text version start

-- the fault of what follows the header, in an image of this version and size
pub data HasFault : Version → ℕ → List (List ℕ) → ImageFault → Type 0 where
  -- a line is due, and no line feed follows
  unfinished : (version : Version) (size : ℕ) (rest : List ℕ) → HasFault version size (rest ∷ []) Truncated
  -- a line is neither a segment's nor an entry's
  no_record : (version : Version) (size : ℕ) (line next : List ℕ) (parts : List (List ℕ)) → IsNoRecord version line
      → HasFault version size (line ∷ next ∷ parts) BadRecord
  -- a segment doesn't lie in core storage
  segment_outside : (version : Version) (size : ℕ) (line next : List ℕ) (parts : List (List ℕ)) (segment : Segment)
      → line ≡ segment_text version segment → is_segment segment ≡ true → segment.address < 10 ^ address_digits version
      → is_inside size segment ≡ false → HasFault version size (line ∷ next ∷ parts) Range
  -- an entry doesn't lie in it
  entry_outside : (version : Version) (size : ℕ) (line next : List ℕ) (parts : List (List ℕ)) (start : ℕ)
      → line ≡ end_text version start → start < 10 ^ address_digits version → size ≤ start
      → HasFault version size (line ∷ next ∷ parts) Range
  -- a byte follows the entry
  beyond_the_end : (version : Version) (size : ℕ) (line next : List ℕ) (parts : List (List ℕ)) (start : ℕ)
      → line ≡ end_text version start → start < size → is_done (next ∷ parts) ≡ false
      → HasFault version size (line ∷ next ∷ parts) BadRecord
  -- a segment is good, and what follows it has a fault
  further_on : (version : Version) (size : ℕ) (line next : List ℕ) (parts : List (List ℕ)) (segment : Segment)
      (fault : ImageFault)
      → line ≡ segment_text version segment → is_segment segment ≡ true → segment.address < 10 ^ address_digits version
      → is_inside size segment ≡ true → HasFault version size (next ∷ parts) fault
      → HasFault version size (line ∷ next ∷ parts) fault

-- the fault of a text by its parts
pub data HasTextFault : List (List ℕ) → ImageFault → Type 0 where
  -- no line feed follows the first line
  no_header_yet : (rest : List ℕ) → HasTextFault (rest ∷ []) Truncated
  -- the first line names no version and size that there are
  no_header : (line next : List ℕ) (parts : List (List ℕ))
      → ((version : Version) (size : ℕ) → has_size version size ≡ true → line ≢ header_text version size)
      → HasTextFault (line ∷ next ∷ parts) Header
  -- what follows the header has a fault
  beyond_the_header : (line next : List ℕ) (parts : List (List ℕ)) (version : Version) (size : ℕ) (fault : ImageFault)
      → line ≡ header_text version size → has_size version size ≡ true → HasFault version size (next ∷ parts) fault
      → HasTextFault (line ∷ next ∷ parts) fault

-- why a text is refused: by its own fault, and for memory only if it is an image's
abbrev pub IsRefused : List ℕ → ImageFault → Type 0
IsRefused text Memory = (image : Image) × IsTextOf text image
IsRefused text Header = HasTextFault (parts_of text) Header
IsRefused text BadRecord = HasTextFault (parts_of text) BadRecord
IsRefused text Range = HasTextFault (parts_of text) Range
IsRefused text Truncated = HasTextFault (parts_of text) Truncated
