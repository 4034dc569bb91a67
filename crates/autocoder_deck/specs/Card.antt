-- The card that brings cells to their places (own): 39 columns for them, and the instructions that load them.
use Rattle.std.specs.Prelude.{ℕ, ◌+◌, ◌-◌, ◌*◌, ◌<◌, ◌==◌, Bool, ◌&&◌, ◌||◌, if◌then◌else◌, List, [], ◌∷◌, ◌++◌, length}
use Rattle.std.specs.Prelude.{map}
use Rattle.std.specs.Prelude.{drop, take, slice_index, codes, nat_lt}
use Rattle.std.specs.List.{flat_map}
use Rattle.bcd_1401.specs.declared.cell.Cell.{Cell}
use Rattle.bcd_1401.specs.Graphic.{graphics}
use Rattle.core_1401.specs.Address.{spelling_of}
use Rattle.core_1401.specs.Storage.{Storage}
use Rattle.cpu_1401.specs.CarryOut.{deposited}
use Rattle.autocoder_deck.specs.Contents.{is_blank}

-- the graphic of a cell's character
abbrev pub graphic_of : Cell → ℕ
graphic_of cell = slice_index graphics cell.char

-- cells whose characters are among the 64
abbrev pub HaveChars : List Cell → Type 0
HaveChars [] = Unit {0}
HaveChars (cell ∷ cells) = (cell.char < 64) × HaveChars cells

-- an address by its three graphics
unfoldable pub address_text : ℕ → List ℕ
address_text address = map (λ char. slice_index graphics char) (spelling_of address)

-- how many columns are for cells after the first
abbrev pub more_columns : ℕ
more_columns = 38

-- how many word marks a card sets, without that of its first cell
abbrev pub most_marks : ℕ
most_marks = 7

-- how many cells, from the first on, go on a card with room for this many columns and word marks
abbrev pub fitting : ℕ → ℕ → List Cell → ℕ
fitting columns marks [] = 0
fitting columns marks (cell ∷ cells) =
    if (columns == 0) || (cell.mark && (marks == 0)) then 0
    else fitting (columns - 1) (if cell.mark then marks - 1 else marks) cells + 1

-- the addresses of the cells with a word mark, the first cell being at this address
abbrev pub marked_places : ℕ → List Cell → List ℕ
marked_places at [] = []
marked_places at (cell ∷ cells) =
    if cell.mark then at ∷ marked_places (at + 1) cells else marked_places (at + 1) cells

-- the instruction that sets the word mark of a place
abbrev pub mark_text : ℕ → List ℕ
mark_text place = codes "," ++ address_text place

-- an instruction for each of these places, and those that are left over: they set the word mark of 040, which is there
unfoldable pub marks_text : List ℕ → List ℕ
marks_text places =
    flat_map mark_text places ++ drop (4 * length places) (codes ",040,040,040,040,040,040,040")

-- the operation that brings cells to their places, with the word mark of the first (L) or without (M)
abbrev pub load_operation : Bool → ℕ
load_operation mark = if mark then 76 else 77

-- the instruction that brings this many columns to the places from an address on
unfoldable pub load_text : ℕ → Bool → ℕ → List ℕ
load_text from mark count =
    load_operation mark ∷ address_text count ++ address_text (from + count - 1)

-- what a card brings: a cell, its address, and the cells after it
pub record CellCard : Type 0 where
  pub from : ℕ
  pub first : Cell
  pub beyond : List Cell

-- the line of a card: its cells, the instructions that load them, and the one that reads the next card
unfoldable pub card_line : CellCard → List ℕ
card_line card =
    graphic_of card.first ∷ map graphic_of card.beyond
    ++ drop (length card.beyond) (codes "                                      ")
    ++ load_text card.from card.first.mark (length card.beyond + 1)
    ++ marks_text (marked_places (card.from + 1) card.beyond)
    ++ codes "1040\n"

-- the cards of the cells from an address on, of which this many are on a card already: none for blanks, and one for any
-- other cell and for those after it that fit on its card
abbrev pub cards_from : ℕ → ℕ → List Cell → List CellCard
cards_from covered from [] = []
cards_from covered from (cell ∷ cells) =
    if nat_lt 0 covered then cards_from (covered - 1) (from + 1) cells
    else if is_blank cell then cards_from 0 (from + 1) cells
    else record {
      from = from;
      first = cell;
      beyond = take (fitting more_columns most_marks cells) cells;
    } ∷ cards_from (fitting more_columns most_marks cells) (from + 1) cells

-- the lines of cards
abbrev pub cards_text : List CellCard → List ℕ
cards_text cards = flat_map card_line cards

-- core storage with what cards bring, in their order
abbrev pub with_cards : Storage → List CellCard → Storage
with_cards storage [] = storage
with_cards storage (card ∷ cards) =
    with_cards (deposited storage card.from (card.first ∷ card.beyond)) cards
