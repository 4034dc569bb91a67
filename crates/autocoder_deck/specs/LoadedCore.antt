-- The image of what core storage holds (own).
use Rattle.std.specs.Prelude.{◌≡◌, ℕ, ◌+◌, ◌-◌, ◌==◌, nat_lt, Bool, ◌&&◌, ◌||◌, if◌then◌else◌, List, [], ◌∷◌, length}
use Rattle.std.specs.Prelude.{take, Result, Ok}
use Rattle.bcd_1401.specs.declared.cell.Cell.{Cell}
use Rattle.cpu_1401.specs.State.{State}
use Rattle.machine_image.specs.Image.{IsInCore}
use Rattle.machine_image.specs.declared.image.Image.{Image}
use Rattle.machine_image.specs.declared.image.Segment.{Segment}
use Rattle.autocoder_deck.specs.Contents.{is_blank, storage_of}
use Rattle.autocoder_deck.specs.Entry.{AtEntry}
use Rattle.autocoder_deck.specs.declared.entry.LoadFault.{LoadFault}
use Rattle.autocoder_deck.specs.declared.loaded_core.LoadedDeck.{LoadedDeck}

-- how many cells a segment has after its first
abbrev pub more_cells : ℕ
more_cells = 39

-- one cell more, if it isn't a blank with nothing after it
abbrev pub one_more : Bool → ℕ → ℕ
one_more is_blank more = if is_blank && (more == 0) then 0 else more + 1

-- how many of these cells follow a segment's first: up to the next word mark, without the blanks at their end, and as
-- many as it has room for
abbrev pub following : ℕ → List Cell → ℕ
following room [] = 0
following room (cell ∷ cells) =
    if (room == 0) || cell.mark then 0 else one_more (is_blank cell) (following (room - 1) cells)

-- the segments of the cells from an address on, if this many of them are in one already: none for blanks, and one for
-- any other cell and for those that follow it
abbrev pub segments_from : ℕ → ℕ → List Cell → List Segment
segments_from covered from [] = []
segments_from covered from (cell ∷ cells) =
    if nat_lt 0 covered then segments_from (covered - 1) (from + 1) cells
    else if is_blank cell then segments_from 0 (from + 1) cells
    else record {
      address = from;
      cells = cell ∷ take (following more_cells cells) cells;
    } ∷ segments_from (following more_cells cells) (from + 1) cells

-- an image of what a machine's core storage holds, which begins at the next instruction
pub record IsCoreImage (s : State) (image : Image) : Type 0 where
  pub size : image.size ≡ length s.storage
  pub segments : image.segments ≡ segments_from 0 0 s.storage
  pub start : image.start ≡ s.i
  pub storage : storage_of image ≡ s.storage
  pub in_core : IsInCore image

-- what a deck has loaded: the image of core storage at the entry, and what was carried out of the last card's places
abbrev pub IsLoadedDeck : Result AtEntry LoadFault → LoadedDeck → Type 0
IsLoadedDeck outcome loaded =
    (at : AtEntry) × (outcome ≡ Ok at) × IsCoreImage at.state.machine loaded.image × (loaded.carried ≡ at.carried)
