-- A deck that loads itself (own).
use Rattle.std.specs.Prelude.{◌≡◌, ℕ, ◌-◌, List, ◌++◌, Some, length, drop, codes}
use Rattle.bcd_1401.specs.declared.cell.Cell.{Cell}
use Rattle.core_1401.specs.Storage.{Storage, blanks}
use Rattle.machine_image.specs.declared.image.Image.{Image}
use Rattle.autocoder_deck.specs.Card.{CellCard, address_text, cards_from, cards_text, with_cards}
use Rattle.autocoder_deck.specs.Contents.{card_places, first_taken, storage_of}
use Rattle.autocoder_deck.specs.declared.fault.DeckFault.{DeckFault}
use Rattle.autocoder_deck.specs.declared.fault.DeckFault.TheVariants.{Place, Memory}

-- it clears a hundred from the last place of storage down, stores in that instruction where the next hundred ends, and
-- does so again until that is 099; then it reads the next card and goes on at 001
unfoldable pub clear_card : ℕ → List ℕ
clear_card size =
    codes ",008015,022029,036040,044051,056060/" ++ address_text (size - 1) ++ codes "H039C039062B036/1001099\n"

-- it sets the word marks of the loader, loads 19 blanks to 081, clears the word marks of the first card and those that
-- it needed for this, and reads the next card
unfoldable pub loader_card : List ℕ
loader_card = codes ",047055,059063,067071,075079)044056,181L199099)060)081)181/039,0011040\n"

-- it clears the places where the cards were read, and branches to the entry
unfoldable pub start_card : ℕ → List ℕ
start_card start = codes "                                       /" ++ address_text start ++ codes "080\n"

-- the cards that bring the cells of core storage
abbrev pub cell_cards : Storage → List CellCard
cell_cards storage = cards_from 0 card_places (drop card_places storage)

-- the deck for core storage of this size with these cells from 081 on, and this entry
unfoldable pub cards_of : ℕ → List Cell → ℕ → List ℕ
cards_of size cells start =
    clear_card size ++ loader_card ++ cards_text (cards_from 0 card_places cells) ++ start_card start

-- the deck for core storage with these cells, and this entry
abbrev pub storage_deck : Storage → ℕ → List ℕ
storage_deck storage start = cards_of (length storage) (drop card_places storage) start

-- the deck of an image
abbrev pub deck_text : Image → List ℕ
deck_text image = storage_deck (storage_of image) image.start

-- what the cards bring to blank core storage is all that it is to hold
abbrev pub AreBrought : Storage → Type 0
AreBrought storage = with_cards (blanks (length storage)) (cell_cards storage) ≡ storage

-- why core storage has no deck: the first place that the cards need and that isn't blank, or want of memory
abbrev pub IsWhyNoDeck : Storage → DeckFault → Type 0
IsWhyNoDeck storage (Place place) = first_taken storage ≡ Some place
IsWhyNoDeck storage Memory = Unit {0}
