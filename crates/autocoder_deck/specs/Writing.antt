-- The listing of an image as it is written, a page after the other (own).
use Rattle.std.specs.Prelude.{◌≡◌, ℕ, ◌≤◌, List, [], ◌++◌, vec_capacity}
use Rattle.std.specs.List.{flat_map}
use Rattle.std.specs.declared.vec.Vec.{Vec}
use Rattle.bcd_1401.specs.declared.cell.Cell.{Cell}
use Rattle.autocoder_placing.specs.declared.segments.Builder.{Builder}
use Rattle.bytes_streams.specs.Page.{most_in_page}
use Rattle.autocoder_deck.specs.ImageListing.{marked_line}
use Rattle.autocoder_deck.specs.Stretches.{built, IsReady}
use Rattle.autocoder_deck.specs.declared.writing.ListingRoom.{ListingRoom}

-- a page, and the lines of what is built and of these cells after it
abbrev pub listed : {Z : Type 0} → Vec ℕ Z → Builder → List (ℕ × Cell) → List ℕ
listed text builder rest = text.items ++ flat_map (marked_line []) (built builder rest)

-- room for a page and for a segment, in which there is nothing
abbrev pub HasRoom : ListingRoom → Type 0
HasRoom room =
    (room.text.items ≡ []) × (room.builder.address ≡ 0) × (room.builder.cells.items ≡ [])
    × (most_in_page ≤ vec_capacity room.text) × IsReady room.builder
