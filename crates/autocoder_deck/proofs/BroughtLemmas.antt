-- What the cards bring to blank storage is all that it is to hold.
use Rattle.std.proofs.Common.{◌≡◌, ◌≤◌, ◌<◌, ℕ, zero, suc, ◌+◌, ◌-◌, ◌==◌, ◌&&◌, ◌||◌, nat_lt, Bool, true, false}
use Rattle.std.proofs.Common.{if◌then◌else◌}
use Rattle.std.proofs.Common.{List, [], ◌∷◌, ◌++◌, length, take, drop, arith, refl, sym, ap, ◌∙◌}
use Rattle.std.specs.Prelude.{not, Option, None, Some}
use Rattle.std.proofs.lemmas.Bool.{eqb-true, and_parts, ltb-false, ltb-true, false≢true}
use Rattle.std.proofs.lemmas.List.{append_assoc, append-nil, drop-drop, drop-replicate, drop_at, take_at, length-append}
use Rattle.std.proofs.lemmas.List.{length-drop}
use Rattle.std.proofs.lemmas.List.{length-take-le, take-append-drop, replicate-append-replicate}
use Rattle.bcd_1401.specs.declared.cell.Cell.{Cell}
use Rattle.core_1401.specs.Storage.{Storage, blank, blanks}
use Rattle.cpu_1401.specs.CarryOut.{deposited}
use Rattle.autocoder_deck.specs.Card.{cards_from, fitting, more_columns, most_marks, with_cards}
use Rattle.autocoder_deck.specs.Contents.{card_places, first_from, first_taken, is_blank}
use Rattle.autocoder_deck.specs.Deck.{AreBrought}

-- storage that has these cells, this many of the next ones, and blanks
abbrev pub part_filled : List Cell → ℕ → List Cell → Storage
part_filled done covered cells = (done ++ take covered cells) ++ blanks (length cells - covered)

-- a blank is a blank
pub same_blank : (char : ℕ) (mark : Bool) → (char == 0) && not mark ≡ true
    → ◌≡◌ {A = Cell} (record { char = char; mark = mark }) blank
same_blank char true h = absurd (false≢true (and_parts (char == 0) false h).1)
same_blank char false h =
    let zero_char = eqb-true char 0 (and_parts (char == 0) true h).0 in
    ap (λ (n : ℕ). record { char = n; mark = false }) zero_char

-- what fits is there
one_fits : (none : Bool) (count most : ℕ) → count ≤ most → (if none then 0 else count + 1) ≤ most + 1
one_fits true count most few = omega arith
one_fits false count most few = omega arith

pub fitting_most : (columns marks : ℕ) (cells : List Cell) → fitting columns marks cells ≤ length cells
fitting_most columns marks [] = omega arith
fitting_most columns marks (cell ∷ cells) =
    let few =
    one_fits ((columns == 0) || (cell.mark && (marks == 0)))
    (fitting (columns - 1) (if cell.mark then marks - 1 else marks) cells) (length cells)
    (fitting_most (columns - 1) (if cell.mark then marks - 1 else marks) cells) in
    omega (arith, few)

-- a cell that is on a card already
pub covered_next : (covered : ℕ) (done cells : List Cell) (cell : Cell) → 0 < covered
    → part_filled done covered (cell ∷ cells) ≡ part_filled (done ++ cell ∷ []) (covered - 1) cells
covered_next zero done cells cell some = absurd (omega arith)
covered_next (suc n) done cells cell some =
    let one_less : suc n - 1 ≡ n = omega arith in
    let left : length (cell ∷ cells) - suc n ≡ length cells - n = omega arith in
    ap (λ (k : ℕ). (done ++ cell ∷ take n cells) ++ blanks k) left
    ∙ ap (λ (front : List Cell). front ++ blanks (length cells - n)) (sym (append_assoc done (cell ∷ []) (take n cells)))
    ∙ ap (λ (k : ℕ). ((done ++ cell ∷ []) ++ take k cells) ++ blanks (length cells - k)) (sym one_less)

-- nothing is on a card yet
pub only_blanks : (done cells : List Cell) (cell : Cell)
    → part_filled done 0 (cell ∷ cells) ≡ done ++ blanks (suc (length cells))
only_blanks done cells cell =
    let left : length (cell ∷ cells) - 0 ≡ suc (length cells) = omega arith in
    ap (λ (k : ℕ). (done ++ []) ++ blanks k) left
    ∙ ap (λ (front : List Cell). front ++ blanks (suc (length cells))) (append-nil done)

-- a blank that is on no card
pub blank_next : (done cells : List Cell) (cell : Cell) → cell ≡ blank
    → part_filled done 0 (cell ∷ cells) ≡ part_filled (done ++ cell ∷ []) 0 cells
blank_next done cells cell h =
    let all : length cells ≡ length cells - 0 = omega arith in
    only_blanks done cells cell
    ∙ sym (append_assoc done (blank ∷ []) (blanks (length cells)))
    ∙ ap (λ (one : Cell). (done ++ one ∷ []) ++ blanks (length cells)) (sym h)
    ∙ ap (λ (front : List Cell). front ++ blanks (length cells)) (sym (append-nil (done ++ cell ∷ [])))
    ∙ ap (λ (k : ℕ). ((done ++ cell ∷ []) ++ []) ++ blanks k) all

-- a card's cells
card_next : (n from : ℕ) (done cells : List Cell) (cell : Cell) → length done ≡ from → n ≤ length cells
    → deposited (part_filled done 0 (cell ∷ cells)) from (cell ∷ take n cells)
    ≡ part_filled (done ++ cell ∷ []) n cells
card_next n from done cells cell h few =
    let count : length (cell ∷ take n cells) ≡ suc n = omega (arith, length-take-le n cells few) in
    let rest : Storage = blanks (suc (length cells)) in
    let left : suc (length cells) - suc n ≡ length cells - n = omega arith in
    ap (λ (s : Storage). deposited s from (cell ∷ take n cells)) (only_blanks done cells cell)
    ∙ ap (λ (front : Storage). (front ++ cell ∷ take n cells)
    ++ drop (from + length (cell ∷ take n cells)) (done ++ rest)) (take_at done rest from h)
    ∙ ap (λ (k : ℕ). (done ++ cell ∷ take n cells) ++ drop (from + k) (done ++ rest)) count
    ∙ ap (λ (back : Storage). (done ++ cell ∷ take n cells) ++ back)
    (sym (drop-drop (suc n) from (done ++ rest)) ∙ ap (drop (suc n)) (drop_at done rest from h)
    ∙ drop-replicate (suc n) (suc (length cells)) blank ∙ ap blanks left)
    ∙ ap (λ (front : Storage). front ++ blanks (length cells - n)) (sym (append_assoc done (cell ∷ []) (take n cells)))

-- what is filled after one cell more
Filled : ℕ → List Cell → Cell → List Cell → Type 0
Filled from done cell cells =
    (next : ℕ) → next ≤ length cells
    → with_cards (part_filled (done ++ cell ∷ []) next cells) (cards_from next (from + 1) cells)
    ≡ (done ++ cell ∷ []) ++ cells

one_cell : (on_card is_empty : Bool) (covered from : ℕ) (done cells : List Cell) (cell : Cell)
    → nat_lt 0 covered ≡ on_card → is_blank cell ≡ is_empty → length done ≡ from → covered ≤ length (cell ∷ cells)
    → Filled from done cell cells
    → with_cards (part_filled done covered (cell ∷ cells)) (if on_card then cards_from (covered - 1) (from + 1) cells
    else if is_empty then cards_from 0 (from + 1) cells
    else record {
      from = from;
      first = cell;
      beyond = take (fitting more_columns most_marks cells) cells;
    } ∷ cards_from (fitting more_columns most_marks cells) (from + 1) cells)
    ≡ done ++ cell ∷ cells
unfolding Filled
one_cell true is_empty covered from done cells cell on e h few more =
    let some : 0 < covered = ltb-true 0 covered on in
    ap (λ (s : Storage). with_cards s (cards_from (covered - 1) (from + 1) cells)) (covered_next covered done cells cell some)
    ∙ more (covered - 1) (omega arith) ∙ append_assoc done (cell ∷ []) cells
one_cell false is_empty (suc n) from done cells cell on e h few more = absurd (omega (arith, ltb-false 0 (suc n) on))
one_cell false true zero from done cells cell on e h few more =
    ap (λ (s : Storage). with_cards s (cards_from 0 (from + 1) cells))
    (blank_next done cells cell (same_blank cell.char cell.mark e))
    ∙ more 0 (omega arith) ∙ append_assoc done (cell ∷ []) cells
one_cell false false zero from done cells cell on e h few more =
    let n = fitting more_columns most_marks cells in
    ap (λ (s : Storage). with_cards s (cards_from n (from + 1) cells))
    (card_next n from done cells cell h (fitting_most more_columns most_marks cells))
    ∙ more n (fitting_most more_columns most_marks cells) ∙ append_assoc done (cell ∷ []) cells

all_filled : (covered from : ℕ) (done cells : List Cell) → length done ≡ from → covered ≤ length cells
    → with_cards (part_filled done covered cells) (cards_from covered from cells) ≡ done ++ cells
unfolding Filled
all_filled zero from done [] h few = append-nil (done ++ [])
all_filled (suc n) from done [] h few = absurd (omega arith)
all_filled covered from done (cell ∷ cells) h few =
    let next : length (done ++ cell ∷ []) ≡ from + 1 = omega (arith, length-append done (cell ∷ [])) in
    one_cell (nat_lt 0 covered) (is_blank cell) covered from done cells cell refl refl h few
    (λ n some. all_filled n (from + 1) (done ++ cell ∷ []) cells next some)

-- cells of which none is taken are blanks
none_taken : (is_empty : Bool) (at : ℕ) (more : Option ℕ) → (if is_empty then more else Some at) ≡ None
    → (is_empty ≡ true) × (more ≡ None)
none_taken true at more h = (refl, h)
none_taken false at more h = absurd cc

pub all_blank : (at : ℕ) (cells : List Cell) → first_from at cells ≡ None → cells ≡ blanks (length cells)
all_blank at [] h = refl
all_blank at (cell ∷ cells) h =
    let parts = none_taken (is_blank cell) at (first_from (at + 1) cells) h in
    ap (λ (first : Cell). first ∷ cells) (same_blank cell.char cell.mark parts.0)
    ∙ ap (λ (more : List Cell). blank ∷ more) (all_blank (at + 1) cells parts.1)

pub are_brought : (storage : Storage) → card_places ≤ length storage → first_taken storage ≡ None → AreBrought storage
are_brought storage most h =
    let low = take card_places storage in
    let high = drop card_places storage in
    let count : length low ≡ card_places = length-take-le card_places storage most in
    let low_blank : low ≡ blanks card_places = all_blank 0 low h ∙ ap blanks count in
    let size : length storage ≡ card_places + length high = omega (arith, length-drop card_places storage) in
    let all : length high ≡ length high - 0 = omega arith in
    let begun : blanks (length storage) ≡ part_filled low 0 high =
    ap blanks size
    ∙ sym (replicate-append-replicate card_places (length high) blank)
    ∙ ap (λ (front : Storage). front ++ blanks (length high)) (sym low_blank ∙ sym (append-nil low))
    ∙ ap (λ (k : ℕ). (low ++ []) ++ blanks k) all in
    ap (λ (s : Storage). with_cards s (cards_from 0 card_places high)) begun
    ∙ all_filled 0 card_places low high count (omega arith)
    ∙ take-append-drop card_places storage
