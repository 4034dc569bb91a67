-- What core storage holds once it has an image's cells (own).
use Rattle.std.specs.Prelude.{ℕ, ◌+◌, ◌==◌, Bool, not, ◌&&◌, if◌then◌else◌, List, [], ◌∷◌, take}
use Rattle.std.specs.Prelude.{Option, None, Some}
use Rattle.bcd_1401.specs.declared.cell.Cell.{Cell}
use Rattle.core_1401.specs.Storage.{Storage, blanks}
use Rattle.cpu_1401.specs.CarryOut.{deposited}
use Rattle.machine_image.specs.declared.image.Image.{Image}
use Rattle.machine_image.specs.declared.image.Segment.{Segment}

-- whether a cell is a blank without a word mark
abbrev pub is_blank : Cell → Bool
is_blank cell = (cell.char == 0) && not cell.mark

-- core storage with the cells of segments, a later one over an earlier one
abbrev pub with_segments : Storage → List Segment → Storage
with_segments storage [] = storage
with_segments storage (segment ∷ segments) =
    with_segments (deposited storage segment.address segment.cells) segments

-- core storage of an image's size with its cells
abbrev pub storage_of : Image → Storage
storage_of image = with_segments (blanks image.size) image.segments

-- how many places the cards are read to, with 000
abbrev pub card_places : ℕ
card_places = 81

-- the address of the first cell that isn't blank, the first of all being at this address
abbrev pub first_from : ℕ → List Cell → Option ℕ
first_from at [] = None
first_from at (cell ∷ cells) = if is_blank cell then first_from (at + 1) cells else Some at

-- the first of these places that isn't blank
abbrev pub first_taken : Storage → Option ℕ
first_taken storage = first_from 0 (take card_places storage)
