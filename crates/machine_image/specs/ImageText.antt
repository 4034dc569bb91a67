-- The text of an image (own).
use Rattle.std.specs.Prelude.{◌≡◌, ◌≤◌, ℕ, ◌==◌, Bool, true, false, Option, None, Some}
use Rattle.std.specs.Prelude.{position, Result, Ok, Err, ◌&&◌, List, ◌++◌, length, slice_index, nat_le}
use Rattle.std.specs.Prelude.{nat_lt, codes}
use Rattle.std.specs.List.{flat_map, list_all}
use Rattle.bcd_1401.specs.declared.cell.Cell.{Cell}
use Rattle.bcd_1401.specs.Graphic.{graphics}
use Rattle.core_1401.specs.Cells.{most_cells}
use Rattle.machine_notation.specs.Cells.{cells_text}
use Rattle.machine_notation.specs.Digits.{digits_in}
use Rattle.machine_image.specs.declared.fault.ImageFault.{ImageFault}
use Rattle.machine_image.specs.declared.fault.ImageFault.TheVariants.{Memory, Header, BadRecord, Range, Truncated}
use Rattle.machine_image.specs.declared.image.Image.{Image}
use Rattle.machine_image.specs.declared.image.Segment.{Segment}
use Rattle.machine_image.specs.declared.version.Version.{Version}
use Rattle.machine_image.specs.declared.version.Version.TheVariants.{One, Two}
use Rattle.machine_image.specs.Image.{is_inside}
use Rattle.machine_image.specs.Version.{name_of, address_digits, most_places, has_size}

-- the first line: the version, and the size
unfoldable pub header_text : Version → ℕ → List ℕ
header_text version size = name_of version ++ digits_in (address_digits version) size

-- the line of a segment: its address, how many cells it has, and the cells
unfoldable pub segment_text : Version → Segment → List ℕ
segment_text version segment =
    digits_in (address_digits version) segment.address
    ++ codes " " ++ digits_in 2 (length segment.cells)
    ++ codes " " ++ cells_text segment.cells

-- the last line: the entry
unfoldable pub end_text : Version → ℕ → List ℕ
end_text version start = codes "END " ++ digits_in (address_digits version) start

-- a line with the line feed that ends it
abbrev pub line_of : List ℕ → List ℕ
line_of line = line ++ codes "\n"

-- the most bytes of a line of version 2, with its line feed
abbrev pub most_in_line : ℕ
most_in_line = 90

-- the lines of segments
unfoldable pub segments_text : Version → List Segment → List ℕ
segments_text version segments = flat_map (λ segment. line_of (segment_text version segment)) segments

-- all lines, in order
unfoldable pub image_text : Version → Image → List ℕ
image_text version image =
    line_of (header_text version image.size)
    ++ segments_text version image.segments
    ++ line_of (end_text version image.start)

-- the text that is written of an image: that of the newest version
abbrev pub written_text : Image → List ℕ
written_text image = image_text Two image

-- whether this is the character
abbrev pub is_char : Option ℕ → ℕ → Bool
is_char None char = false
is_char (Some found) char = found == char

-- whether a cell's character is the one of its graphic, as each of the 64 is
abbrev pub is_character : Cell → Bool
is_character cell = is_char (position (λ each. each == slice_index graphics cell.char) graphics) cell.char

-- whether it has 1 to 40 cells, as every segment of the machine has
abbrev pub is_segment : Segment → Bool
is_segment segment =
    nat_le 1 (length segment.cells) && nat_le (length segment.cells) most_cells && list_all is_character segment.cells

-- an image that has a text of this version
pub record HasText (version : Version) (image : Image) : Type 0 where
  pub size : has_size version image.size ≡ true
  pub cells : list_all is_segment image.segments ≡ true
  pub segments : list_all (is_inside image.size) image.segments ≡ true
  pub start : nat_lt image.start image.size ≡ true

-- an image with a text has one of version 2, and if it isn't too large also one of version 1
pub record HasTexts (image : Image) : Type 0 where
  pub newest : HasText Two image
  pub oldest : image.size ≤ most_places → HasText One image

-- the text is the image's, in one of the versions
pub record IsTextOf (text : List ℕ) (image : Image) : Type 0 where
  pub version : Version
  pub has_text : HasText version image
  pub text_is : text ≡ image_text version image

-- what is answered for the text of an image: the image, or that memory was refused
abbrev pub IsOrMemory : Result Image ImageFault → Image → Type 0
IsOrMemory (Ok found) image = found ≡ image
IsOrMemory (Err Memory) image = Unit {0}
IsOrMemory (Err Header) image = ⊥
IsOrMemory (Err BadRecord) image = ⊥
IsOrMemory (Err Range) image = ⊥
IsOrMemory (Err Truncated) image = ⊥
