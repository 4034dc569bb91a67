-- The lines of a deck, and its cards.
use Rattle.std.proofs.Common.{◌≡◌, ℕ, zero, suc, ◌+◌, ◌-◌, ◌<◌, ◌≤◌, nat_lt, Bool, true, false, List, [], ◌∷◌, ◌++◌}
use Rattle.std.proofs.Common.{length, map, take, drop, replicate, get_or, if◌then◌else◌, refl, ap, sym, ◌∙◌, arith}
use Rattle.std.specs.Prelude.{codes, Ok, Result}
use Rattle.std.proofs.lemmas.List.{append_assoc, drop-replicate, length-append, length-take-le, map-append}
use Rattle.bcd_1401.specs.declared.cell.Cell.{Cell}
use Rattle.bcd_1401.specs.Graphic.{graphics}
use Rattle.devices_1401.specs.declared.card.Card.{Card}
use Rattle.autocoder_statements.specs.SourceLine.{lines_of}
use Rattle.job_runner.specs.declared.deck_text.DeckTextFault.{DeckTextFault}
use Rattle.job_runner.specs.DeckText.{deck_from, deck_of}
use Rattle.autocoder_deck.specs.Card.{CellCard, address_text, card_line, cards_from, cards_text, fitting, graphic_of}
use Rattle.autocoder_deck.specs.Card.{load_operation}
use Rattle.autocoder_deck.specs.Card.{load_text, marked_places, marks_text, more_columns, most_marks}
use Rattle.autocoder_deck.specs.Contents.{is_blank}
use Rattle.autocoder_deck.specs.Deck.{cards_of, clear_card, loader_card, start_card}
use Rattle.autocoder_deck.proofs.CardsLemmas.{card_of, chars_of, code_of, front_length, front_of, marked_place}
use Rattle.autocoder_deck.proofs.BroughtLemmas.{fitting_most}
use Rattle.autocoder_deck.proofs.CardTextLemmas.{Chars, chars_both, first_card_read, graphic, padded, spelled_chars}
use Rattle.autocoder_deck.proofs.CardTextLemmas.{written_chars}
use Rattle.autocoder_deck.proofs.CellCardLemmas.{code_line}
use Rattle.autocoder_deck.proofs.ClearCardLemmas.{clear_back, clear_front, clear_line}
use Rattle.autocoder_deck.proofs.DeckLemmas.{deck_cards, later_cards, start_chars, start_line}
use Rattle.autocoder_deck.proofs.FittingLemmas.{fitting_columns, fitting_marks}
use Rattle.autocoder_deck.proofs.LoaderCardLemmas.{loader_chars, loader_line}
use Rattle.autocoder_deck.proofs.ProgramLemmas.{spelled}

-- the first card
clear_text : (size : ℕ) (text : List ℕ) → clear_card size ++ text ≡ map graphic (clear_line (size - 1)) ++ 10 ∷ text
unfolding clear_card address_text graphics
clear_text size text = refl

clear_line_chars : (address : ℕ) → address < 16000 → Chars (clear_line address)
clear_line_chars address lt =
    chars_both clear_front (spelled address clear_back) (written_chars clear_front refl)
    (spelled_chars address clear_back lt (written_chars clear_back refl))

-- the second card
second_text : (text : List ℕ) → loader_card ++ text ≡ map graphic loader_line ++ 10 ∷ text
unfolding loader_card graphics
second_text text = refl

-- the last card
start_text : (start : ℕ) → start_card start ≡ map graphic (start_line start) ++ 10 ∷ []
unfolding start_card address_text graphics
start_text start = refl

start_line_chars : (start : ℕ) → start < 16000 → Chars (start_line start)
start_line_chars start lt =
    chars_both (replicate 39 0) (17 ∷ spelled start (10 ∷ 8 ∷ 10 ∷ [])) (written_chars (replicate 39 0) refl)
    (written_one, spelled_chars start (10 ∷ 8 ∷ 10 ∷ []) lt (written_chars (10 ∷ 8 ∷ 10 ∷ []) refl))
  where
    written_one : 17 < 64
    written_one = omega arith

start_read : (number start : ℕ) → start < 16000
    → deck_from number (lines_of (start_card start)) ≡ Ok (record { 0 = start_chars start } ∷ [])
start_read number start lt =
    ap (λ (text : List ℕ). deck_from number (lines_of text)) (start_text start)
    ∙ first_card_read number (start_line start) [] [] (start_line_chars start lt) (omega arith) refl

-- the instructions of a card of cells that set word marks
abbrev marks_line : List ℕ → List ℕ → List ℕ
marks_line ps chars =
    27 ∷ spelled (get_or ps 0 40) (27 ∷ spelled (get_or ps 1 40) (27 ∷ spelled (get_or ps 2 40)
    (27 ∷ spelled (get_or ps 3 40) (27 ∷ spelled (get_or ps 4 40) (27 ∷ spelled (get_or ps 5 40)
    (27 ∷ spelled (get_or ps 6 40) chars))))))

marks_written : (ps text : List ℕ) → length ps ≤ 7 → marks_text ps ++ text ≡ map graphic (marks_line ps []) ++ text
unfolding marks_text address_text graphics
marks_written [] text few = refl
marks_written (a ∷ []) text few = refl
marks_written (a ∷ b ∷ []) text few = refl
marks_written (a ∷ b ∷ c ∷ []) text few = refl
marks_written (a ∷ b ∷ c ∷ d ∷ []) text few = refl
marks_written (a ∷ b ∷ c ∷ d ∷ e ∷ []) text few = refl
marks_written (a ∷ b ∷ c ∷ d ∷ e ∷ f ∷ []) text few = refl
marks_written (a ∷ b ∷ c ∷ d ∷ e ∷ f ∷ g ∷ []) text few = refl
marks_written (a ∷ b ∷ c ∷ d ∷ e ∷ f ∷ g ∷ h ∷ ps) text few = absurd (omega (arith, few))

-- the blanks after the cells
blanks_written : (k : ℕ) → drop k (codes "                                      ") ≡ map graphic (replicate (38 - k) 0)
unfolding graphics
blanks_written k = drop-replicate k 38 32 ∙ same (38 - k)
  where
    same : (n : ℕ) → replicate n 32 ≡ map graphic (replicate n 0)
    same zero = refl
    same (suc n) = ap (λ (more : List ℕ). 32 ∷ more) (same n)

cells_written : (cells : List Cell) → map graphic_of cells ≡ map graphic (chars_of cells)
cells_written [] = refl
cells_written (cell ∷ cells) = ap (λ (more : List ℕ). graphic cell.char ∷ more) (cells_written cells)

operation_written : (mark : Bool) → load_operation mark ≡ graphic (if mark then 35 else 36)
unfolding graphics
operation_written true = refl
operation_written false = refl

abbrev load_line : CellCard → List ℕ
load_line card = (code_of card).does ∷ spelled (code_of card).count (spelled (code_of card).top [])

load_written : (card : CellCard) (text : List ℕ)
    → load_text card.from card.first.mark (length card.beyond + 1) ++ text ≡ map graphic (load_line card) ++ text
unfolding load_text address_text
load_written card text =
    ap (λ (byte : ℕ). byte ∷ (map graphic (spelled (code_of card).count (spelled (code_of card).top [])) ++ text))
    (operation_written card.first.mark)

-- what is on a card can be written
pub record IsWritten (card : CellCard) : Type 0 where
  pub columns : length card.beyond ≤ 38
  pub marks : length (marked_places (card.from + 1) card.beyond) ≤ 7
  pub places : card.from + 1 + length card.beyond ≤ 16000
  pub chars : Chars (chars_of (card.first ∷ card.beyond))

abbrev cell_line : CellCard → List ℕ
cell_line card = front_of card ++ code_line (code_of card)

last_written : (text : List ℕ) → codes "1040\n" ++ text ≡ map graphic (1 ∷ 10 ∷ 4 ∷ 10 ∷ []) ++ 10 ∷ text
unfolding graphics
last_written text = refl

-- parts of a line, from left to right
parted : (a b c d e text : List ℕ) → ((((a ++ b) ++ c) ++ d) ++ e) ++ text ≡ a ++ (b ++ (c ++ (d ++ (e ++ text))))
parted a b c d e text =
    append_assoc (((a ++ b) ++ c) ++ d) e text ∙ append_assoc ((a ++ b) ++ c) d (e ++ text)
    ∙ append_assoc (a ++ b) c (d ++ (e ++ text)) ∙ append_assoc a b (c ++ (d ++ (e ++ text)))

three : (xs ys zs text : List ℕ) → map graphic ((xs ++ ys) ++ zs) ++ text
    ≡ map graphic xs ++ (map graphic ys ++ (map graphic zs ++ text))
three xs ys zs text =
    ap (λ (t : List ℕ). t ++ text) (map-append graphic (xs ++ ys) zs
    ∙ ap (λ (t : List ℕ). t ++ map graphic zs) (map-append graphic xs ys))
    ∙ append_assoc (map graphic xs ++ map graphic ys) (map graphic zs) text
    ∙ append_assoc (map graphic xs) (map graphic ys) (map graphic zs ++ text)

card_written : (card : CellCard) (text : List ℕ) → IsWritten card
    → card_line card ++ text ≡ map graphic (cell_line card) ++ 10 ∷ text
unfolding card_line
card_written card text is =
    let places : List ℕ = marked_places (card.from + 1) card.beyond in
    let chars : List ℕ = chars_of (card.first ∷ card.beyond) in
    let zeros : List ℕ = replicate (38 - length card.beyond) 0 in
    let blanks : List ℕ = drop (length card.beyond) (codes "                                      ") in
    let load : List ℕ = load_text card.from card.first.mark (length card.beyond + 1) in
    let marks : List ℕ = marks_text places in
    let read : List ℕ = codes "1040\n" in
    parted (map graphic_of (card.first ∷ card.beyond)) blanks load marks read text
    ∙ ap (λ (t : List ℕ). t ++ (blanks ++ (load ++ (marks ++ (read ++ text))))) (cells_written (card.first ∷ card.beyond))
    ∙ ap (λ (t : List ℕ). map graphic chars ++ (t ++ (load ++ (marks ++ (read ++ text)))))
    (blanks_written (length card.beyond))
    ∙ ap (λ (t : List ℕ). map graphic chars ++ (map graphic zeros ++ t))
    (load_written card (marks ++ (read ++ text))
    ∙ ap (λ (t : List ℕ). map graphic (load_line card) ++ t) (marks_written places (read ++ text) is.marks
    ∙ ap (λ (t : List ℕ). map graphic (marks_line places []) ++ t) (last_written text)))
    ∙ sym (three chars zeros (code_line (code_of card)) (10 ∷ text))

-- the line's characters
zeros_are : (n : ℕ) → Chars (replicate n 0)
zeros_are zero = tt
zeros_are (suc n) = (omega arith, zeros_are n)

place_below : (cells : List Cell) (at k : ℕ) → at + length cells ≤ 16000 → get_or (marked_places at cells) k 40 < 16000
place_below [] at k few = omega arith
place_below (cell ∷ cells) at k few = one_below cell.mark k (λ j. place_below cells (at + 1) j (omega (arith, few)))
  where
    one_below : (mark : Bool) (j : ℕ) → ((i : ℕ) → get_or (marked_places (at + 1) cells) i 40 < 16000)
        → get_or (if mark then at ∷ marked_places (at + 1) cells else marked_places (at + 1) cells) j 40 < 16000
    one_below true zero more = omega (arith, few)
    one_below true (suc j) more = more j
    one_below false j more = more j

operation_below : (mark : Bool) → (if mark then 35 else 36) < 64
operation_below true = omega arith
operation_below false = omega arith

comma : 27 < 64
comma = omega arith

comma_chars : (x : ℕ) (chars : List ℕ) → x < 16000 → Chars chars → Chars (27 ∷ spelled x chars)
comma_chars x chars lt are = (comma, spelled_chars x chars lt are)

cell_line_chars : (card : CellCard) → IsWritten card → Chars (cell_line card)
cell_line_chars card is =
    let below : (k : ℕ) → marked_place card k < 16000 =
    λ k. place_below card.beyond (card.from + 1) k is.places in
    let front : Chars (front_of card) =
    chars_both (chars_of (card.first ∷ card.beyond)) (replicate (38 - length card.beyond) 0) is.chars
    (zeros_are (38 - length card.beyond)) in
    let c8 : List ℕ = 1 ∷ 10 ∷ 4 ∷ 10 ∷ [] in
    let r8 : Chars c8 = written_chars c8 refl in
    let c7 : List ℕ = 27 ∷ spelled (marked_place card 6) c8 in
    let r7 : Chars c7 = comma_chars (marked_place card 6) c8 (below 6) r8 in
    let c6 : List ℕ = 27 ∷ spelled (marked_place card 5) c7 in
    let r6 : Chars c6 = comma_chars (marked_place card 5) c7 (below 5) r7 in
    let c5 : List ℕ = 27 ∷ spelled (marked_place card 4) c6 in
    let r5 : Chars c5 = comma_chars (marked_place card 4) c6 (below 4) r6 in
    let c4 : List ℕ = 27 ∷ spelled (marked_place card 3) c5 in
    let r4 : Chars c4 = comma_chars (marked_place card 3) c5 (below 3) r5 in
    let c3 : List ℕ = 27 ∷ spelled (marked_place card 2) c4 in
    let r3 : Chars c3 = comma_chars (marked_place card 2) c4 (below 2) r4 in
    let c2 : List ℕ = 27 ∷ spelled (marked_place card 1) c3 in
    let r2 : Chars c2 = comma_chars (marked_place card 1) c3 (below 1) r3 in
    let c1 : List ℕ = 27 ∷ spelled (marked_place card 0) c2 in
    let r1 : Chars c1 = comma_chars (marked_place card 0) c2 (below 0) r2 in
    let top : Chars (spelled (code_of card).top c1) = spelled_chars (code_of card).top c1 (omega (arith, is.places)) r1 in
    let count : Chars (spelled (code_of card).count (spelled (code_of card).top c1)) =
    spelled_chars (code_of card).count (spelled (code_of card).top c1) (omega (arith, is.columns)) top in
    let code : Chars (code_line (code_of card)) = (operation_below card.first.mark, count) in
    chars_both (front_of card) (code_line (code_of card)) front code

cell_card_is : (card : CellCard) → IsWritten card → padded (cell_line card) ≡ card_of card
cell_card_is card is =
    let size : 80 - length (cell_line card) ≡ 2 =
    omega (arith, front_length card is.columns, length-append (front_of card) (code_line (code_of card))) in
    ap (λ (n : ℕ). let made : Card = record { 0 = cell_line card ++ replicate n 0 } in made) size
    ∙ ap (λ (chars : List ℕ). let made : Card = record { 0 = chars } in made)
    (append_assoc (front_of card) (code_line (code_of card)) (0 ∷ 0 ∷ []))

cell_card_read : (number : ℕ) (card : CellCard) (text : List ℕ) (deck : List Card) → IsWritten card
    → deck_from (number + 1) (lines_of text) ≡ Ok deck
    → deck_from number (lines_of (card_line card ++ text)) ≡ Ok (card_of card ∷ deck)
cell_card_read number card text deck is more =
    ap (λ (t : List ℕ). deck_from number (lines_of t)) (card_written card text is)
    ∙ first_card_read number (cell_line card) text deck (cell_line_chars card is)
    (omega (arith, front_length card is.columns, length-append (front_of card) (code_line (code_of card)))) more
    ∙ ap (λ (first : Card). let read : Result (List Card) DeckTextFault = Ok (first ∷ deck) in read) (cell_card_is card is)

-- all cards of cells
abbrev AreWritten : List CellCard → Type 0
AreWritten [] = Unit {0}
AreWritten (card ∷ cards) = IsWritten card × AreWritten cards

cards_read : (number : ℕ) (cards : List CellCard) (text : List ℕ) (deck : List Card) → AreWritten cards
    → ((n : ℕ) → deck_from n (lines_of text) ≡ Ok deck)
    → deck_from number (lines_of (cards_text cards ++ text)) ≡ Ok (map card_of cards ++ deck)
cards_read number [] text deck are more = more number
cards_read number (card ∷ cards) text deck are more =
    ap (λ (t : List ℕ). deck_from number (lines_of t)) (append_assoc (card_line card) (cards_text cards) text)
    ∙ cell_card_read number card (cards_text cards ++ text) (map card_of cards ++ deck) are.0
    (cards_read (number + 1) cards text deck are.1 more)

-- the cards of cells that are characters
chars_taken : (n : ℕ) (cells : List Cell) → Chars (chars_of cells) → Chars (chars_of (take n cells))
chars_taken zero cells are = tt
chars_taken (suc n) [] are = tt
chars_taken (suc n) (cell ∷ cells) are = (are.0, chars_taken n cells are.1)

one_written : (on_card is_empty : Bool) (covered from : ℕ) (cells : List Cell) (cell : Cell)
    → from + length (cell ∷ cells) ≤ 16000 → Chars (chars_of (cell ∷ cells))
    → ((n : ℕ) → AreWritten (cards_from n (from + 1) cells))
    → AreWritten (if on_card then cards_from (covered - 1) (from + 1) cells
    else if is_empty then cards_from 0 (from + 1) cells
    else record {
      from = from;
      first = cell;
      beyond = take (fitting more_columns most_marks cells) cells;
    } ∷ cards_from (fitting more_columns most_marks cells) (from + 1) cells)
one_written true is_empty covered from cells cell places are more = more (covered - 1)
one_written false true covered from cells cell places are more = more 0
one_written false false covered from cells cell places are more =
    let n = fitting more_columns most_marks cells in
    let size : length (take n cells) ≡ n = length-take-le n cells (fitting_most more_columns most_marks cells) in (
      record {
        columns = omega (arith, size, fitting_columns more_columns most_marks cells);
        marks = fitting_marks more_columns most_marks (from + 1) cells;
        places = omega (arith, size, places, fitting_most more_columns most_marks cells);
        chars = (are.0, chars_taken n cells are.1);
      },
      more n,
    )

all_written : (covered from : ℕ) (cells : List Cell) → from + length cells ≤ 16000 → Chars (chars_of cells)
    → AreWritten (cards_from covered from cells)
all_written covered from [] places are = tt
all_written covered from (cell ∷ cells) places are =
    one_written (nat_lt 0 covered) (is_blank cell) covered from cells cell places are
    (λ n. all_written n (from + 1) cells (omega (arith, places)) are.1)

-- the text of a deck is that of its cards
pub deck_read : (size : ℕ) (cells : List Cell) (start : ℕ) → size ≤ 16000 → size ≡ 81 + length cells → start < 16000
    → Chars (chars_of cells) → deck_of (cards_of size cells start) ≡ Ok (deck_cards size cells start)
unfolding cards_of
deck_read size cells start most all fits are =
    let cards : List CellCard = cards_from 0 81 cells in
    let text : List ℕ = cards_text cards ++ start_card start in
    ap (λ (t : List ℕ). deck_from 1 (lines_of t))
    (append_assoc (clear_card size ++ loader_card) (cards_text cards) (start_card start)
    ∙ append_assoc (clear_card size) loader_card text ∙ clear_text size (loader_card ++ text))
    ∙ first_card_read 1 (clear_line (size - 1)) (loader_card ++ text) (record { 0 = loader_chars } ∷ later_cards cells start)
    (clear_line_chars (size - 1) (omega (arith, most, all))) (omega arith)
    (ap (λ (t : List ℕ). deck_from 2 (lines_of t)) (second_text text)
    ∙ first_card_read 2 loader_line text (later_cards cells start) (written_chars loader_line refl) (omega arith)
    (cards_read 3 cards (start_card start) (record { 0 = start_chars start } ∷ [])
    (all_written 0 81 cells (omega (arith, most, all)) are) (λ n. start_read n start fits)))
