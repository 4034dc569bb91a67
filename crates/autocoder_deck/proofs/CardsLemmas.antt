-- All cards of cells, one after the other.
use Rattle.std.proofs.Common.{◌≡◌, ℕ, zero, suc, ◌+◌, ◌-◌, ◌≤◌, ◌==◌, Bool, true, false, List, [], ◌∷◌, ◌++◌}
use Rattle.std.proofs.Common.{length, map, replicate, get_or, set, inl, inr, if◌then◌else◌, refl, ap, sym, subst, ◌∙◌}
use Rattle.std.proofs.Common.{arith}
use Rattle.std.proofs.lemmas.Bool.Decides.{nat_tests}
use Rattle.std.proofs.lemmas.List.{append_assoc, get_or_append_left, length-append, length-map, length-replicate}
use Rattle.std.proofs.lemmas.List.FromFn.{fill_by_all}
use Rattle.bcd_1401.specs.declared.cell.Cell.{Cell}
use Rattle.core_1401.specs.Storage.{Storage, blanks, with_mark}
use Rattle.devices_1401.specs.declared.card.Card.{Card}
use Rattle.cpu_1401.specs.State.{State}
use Rattle.autocoder_deck.specs.Card.{CellCard, marked_places}
use Rattle.autocoder_deck.proofs.CellCardLemmas.{ArePlaces, CardCode, IsPlace, all_marked, all_set, card_chars}
use Rattle.autocoder_deck.proofs.CellCardLemmas.{card_read}
use Rattle.autocoder_deck.proofs.CellCardLemmas.{code_chars}
use Rattle.autocoder_deck.proofs.CellCardLemmas.{columns, mark_beyond}
use Rattle.autocoder_deck.proofs.CellLoadLemmas.{Brings, card_loaded, card_moved, first_marked, plain}
use Rattle.autocoder_deck.proofs.LoaderCardLemmas.{loader_marks}
use Rattle.autocoder_deck.proofs.PlacesLemmas.{cell_beyond, set_beyond}
use Rattle.autocoder_deck.proofs.ProgramLemmas.{with_card}
use Rattle.autocoder_deck.proofs.StepLemmas.{Leaves}

-- the characters of cells
abbrev pub chars_of : List Cell → List ℕ
chars_of cells = map (λ (cell : Cell). cell.char) cells

-- the k-th of the places whose word marks a card sets: 040 for those that are left over
abbrev pub marked_place : CellCard → ℕ → ℕ
marked_place card k = get_or (marked_places (card.from + 1) card.beyond) k 40

-- what the loader on a card of cells says
abbrev pub code_of : CellCard → CardCode
code_of card = record {
  does = if card.first.mark then 35 else 36;
  count = length card.beyond + 1;
  top = card.from + (length card.beyond + 1) - 1;
  first = marked_place card 0;
  second = marked_place card 1;
  third = marked_place card 2;
  fourth = marked_place card 3;
  fifth = marked_place card 4;
  sixth = marked_place card 5;
  seventh = marked_place card 6;
}

-- its first 39 columns
abbrev pub front_of : CellCard → List ℕ
front_of card = chars_of (card.first ∷ card.beyond) ++ replicate (38 - length card.beyond) 0

-- the card
abbrev pub card_of : CellCard → Card
card_of card = record { 0 = front_of card ++ code_chars (code_of card) }

-- what is after the card with the word marks of places
abbrev marks_over : Storage → List ℕ → Storage
marks_over rest [] = rest
marks_over rest (place ∷ places) = marks_over (mark_beyond rest place) places

-- those that are left over set none
seven_marked : (rest : Storage) (ps : List ℕ) → length ps ≤ 7
    → marks_over rest (get_or ps 0 40 ∷ get_or ps 1 40 ∷ get_or ps 2 40 ∷ get_or ps 3 40 ∷ get_or ps 4 40
    ∷ get_or ps 5 40 ∷ get_or ps 6 40 ∷ []) ≡ marks_over rest ps
seven_marked rest [] few = refl
seven_marked rest (a ∷ []) few = refl
seven_marked rest (a ∷ b ∷ []) few = refl
seven_marked rest (a ∷ b ∷ c ∷ []) few = refl
seven_marked rest (a ∷ b ∷ c ∷ d ∷ []) few = refl
seven_marked rest (a ∷ b ∷ c ∷ d ∷ e ∷ []) few = refl
seven_marked rest (a ∷ b ∷ c ∷ d ∷ e ∷ f ∷ []) few = refl
seven_marked rest (a ∷ b ∷ c ∷ d ∷ e ∷ f ∷ g ∷ []) few = refl
seven_marked rest (a ∷ b ∷ c ∷ d ∷ e ∷ f ∷ g ∷ h ∷ ps) few = absurd (omega (arith, few))

-- cells that came without their word marks have them then
cell_is : (cell : Cell) (mark : Bool) → cell.mark ≡ mark → ◌≡◌ {A = Cell} (record { char = cell.char; mark = mark }) cell
cell_is cell mark e = ap (λ (b : Bool). let made : Cell = record { char = cell.char; mark = b } in made) (sym e)

first_set : (done more : Storage) (at : ℕ) (cell : Cell) → at ≡ 81 + length done → cell.mark ≡ true
    → mark_beyond (done ++ (plain cell.char ∷ more)) at ≡ done ++ (cell ∷ more)
first_set done more at cell h e =
    let other : (at == 40) ≡ false = grind (arith, nat_tests) in
    let place : at - 81 ≡ length done + 0 = omega (arith, h) in
    let s = done ++ (plain cell.char ∷ more) in
    ap (λ (b : Bool). if b then s else with_mark s (at - 81) true) other
    ∙ ap (λ (k : ℕ). with_mark s k true) place
    ∙ ap (λ (old : Cell). set s (length done + 0) (record old { mark = true })) (cell_beyond done (plain cell.char ∷ more) 0)
    ∙ set_beyond done (plain cell.char ∷ more) 0 (record { char = cell.char; mark = true })
    ∙ ap (λ (c : Cell). done ++ (c ∷ more)) (cell_is cell true e)

abbrev Set : List Cell → Storage → Type 0
Set cells post = (done : Storage) (at : ℕ) → at ≡ 81 + length done
    → marks_over (done ++ (map plain (chars_of cells) ++ post)) (marked_places at cells) ≡ done ++ (cells ++ post)

one_set : (cell : Cell) (cells post done : Storage) (at : ℕ) (mark : Bool) → cell.mark ≡ mark → at ≡ 81 + length done
    → Set cells post
    → marks_over (done ++ (plain cell.char ∷ (map plain (chars_of cells) ++ post)))
    (if mark then at ∷ marked_places (at + 1) cells else marked_places (at + 1) cells) ≡ done ++ (cell ∷ (cells ++ post))
one_set cell cells post done at true e h more =
    let rest : Storage = map plain (chars_of cells) ++ post in
    ap (λ (s : Storage). marks_over s (marked_places (at + 1) cells))
    (first_set done rest at cell h e ∙ sym (append_assoc done (cell ∷ []) rest))
    ∙ more (done ++ cell ∷ []) (at + 1) (omega (arith, h, length-append done (cell ∷ [])))
    ∙ append_assoc done (cell ∷ []) (cells ++ post)
one_set cell cells post done at false e h more =
    let rest : Storage = map plain (chars_of cells) ++ post in
    ap (λ (s : Storage). marks_over s (marked_places (at + 1) cells))
    (ap (λ (c : Cell). done ++ (c ∷ rest)) (cell_is cell false e) ∙ sym (append_assoc done (cell ∷ []) rest))
    ∙ more (done ++ cell ∷ []) (at + 1) (omega (arith, h, length-append done (cell ∷ [])))
    ∙ append_assoc done (cell ∷ []) (cells ++ post)

all_cells_set : (cells post done : Storage) (at : ℕ) → at ≡ 81 + length done
    → marks_over (done ++ (map plain (chars_of cells) ++ post)) (marked_places at cells) ≡ done ++ (cells ++ post)
all_cells_set [] post done at h = refl
all_cells_set (cell ∷ cells) post done at h =
    one_set cell cells post done at cell.mark refl h (λ front next e. all_cells_set cells post front next e)

-- the places are after the card
each_place : (cells : List Cell) (at size k : ℕ) → 81 ≤ at → at + length cells ≤ 81 + size
    → IsPlace size (get_or (marked_places at cells) k 40)
each_place [] at size k le lt = inl refl
each_place (cell ∷ cells) at size k le lt =
    one_place cell.mark k (λ j. each_place cells (at + 1) size j (omega arith) (omega (arith, lt)))
  where
    one_place : (mark : Bool) (j : ℕ) → ((i : ℕ) → IsPlace size (get_or (marked_places (at + 1) cells) i 40))
        → IsPlace size (get_or (if mark then at ∷ marked_places (at + 1) cells else marked_places (at + 1) cells) j 40)
    one_place true zero more = inr (le, omega (arith, lt))
    one_place true (suc j) more = more j
    one_place false j more = more j

-- the first 39 columns, one by one
pub front_length : (card : CellCard) → length card.beyond ≤ 38 → length (front_of card) ≡ 39
front_length card few =
    omega (
      arith,
      few,
      length-append (chars_of (card.first ∷ card.beyond)) (replicate (38 - length card.beyond) 0),
      length-map card.beyond (λ (cell : Cell). cell.char),
      length-replicate {A = ℕ} (38 - length card.beyond) 0,
    )

front_is : (card : CellCard) → length card.beyond ≤ 38 → columns (front_of card) ≡ front_of card
front_is card few =
    sym (fill_by_all (λ i. get_or (front_of card) i 0) (front_of card) 39 0 (front_length card few) (λ k lt. refl))

pub card_length : (card : CellCard) → length card.beyond ≤ 38 → length (card_of card).0 ≡ 80
card_length card few =
    omega (arith, front_length card few, length-append (front_of card) (code_chars (code_of card)))

-- a card of cells comes to where its cells are to be
pub record Fits (card : CellCard) (done : Storage) : Type 0 where
  pub from : card.from ≡ 81 + length done
  pub columns : length card.beyond ≤ 38
  pub marks : length (marked_places (card.from + 1) card.beyond) ≤ 7

loaded_or_moved : (last : State) (hopper : List Card) (card : CellCard) (done post : Storage)
    → (mark : Bool) → card.first.mark ≡ mark
    → Brings (front_of card) (chars_of (card.first ∷ card.beyond)) (code_of card) done
    → Leaves last hopper (with_card loader_marks (card_chars (front_of card) (code_of card))
    (done ++ (first_marked mark (chars_of (card.first ∷ card.beyond)) ++ post))) 47
    → Leaves last hopper (with_card loader_marks (card_chars (front_of card) (code_of card))
    (done ++ (blanks (length card.beyond + 1) ++ post))) 40
loaded_or_moved last hopper card done post true e brings more =
    card_loaded last hopper (front_of card) (chars_of (card.first ∷ card.beyond)) (code_of card) done post brings
    (ap (λ (b : Bool). if b then 35 else 36) e) more
loaded_or_moved last hopper card done post false e brings more =
    card_moved last hopper (front_of card) (chars_of (card.first ∷ card.beyond)) (code_of card) done post brings
    (ap (λ (b : Bool). if b then 35 else 36) e) more

what_it_brings : (card : CellCard) (done : Storage) → Fits card done
    → Brings (front_of card) (chars_of (card.first ∷ card.beyond)) (code_of card) done
what_it_brings card done fits = record {
  some = omega arith;
  most = omega (arith, fits.columns);
  top = omega (arith, fits.from);
  size = omega (arith, length-map card.beyond (λ (cell : Cell). cell.char));
  same = λ j lt. get_or_append_left (chars_of (card.first ∷ card.beyond)) (replicate (38 - length card.beyond) 0) 0 j
      (omega (arith, lt, length-map card.beyond (λ (cell : Cell). cell.char)));
}

length-first : (mark : Bool) (card : CellCard) → length (first_marked mark (chars_of (card.first ∷ card.beyond)))
    ≡ length card.beyond + 1
length-first mark card =
    omega (arith, length-map card.beyond (λ (cell : Cell). cell.char), length-map (chars_of card.beyond) plain)

places_of : (card : CellCard) (done post : Storage) → Fits card done
    → ArePlaces (code_of card) (length (done ++ (first_marked card.first.mark (chars_of (card.first ∷ card.beyond)) ++ post)))
places_of card done post fits =
    let brought : Storage = first_marked card.first.mark (chars_of (card.first ∷ card.beyond)) in
    let size : length (done ++ (brought ++ post)) ≡ length done + (length card.beyond + 1 + length post) =
    omega (arith, length-append done (brought ++ post), length-append brought post, length-first card.first.mark card) in
    let each : (k : ℕ) → IsPlace (length (done ++ (brought ++ post))) (marked_place card k) =
    λ k. each_place card.beyond (card.from + 1) (length (done ++ (brought ++ post))) k (omega (arith, fits.from))
    (omega (arith, fits.from, size)) in
    record {
      first = each 0;
      second = each 1;
      third = each 2;
      fourth = each 3;
      fifth = each 4;
      sixth = each 5;
      seventh = each 6;
    }

marks_are : (card : CellCard) (done post : Storage) → Fits card done
    → all_marked (code_of card) (done ++ (first_marked card.first.mark (chars_of (card.first ∷ card.beyond)) ++ post))
    ≡ done ++ ((card.first ∷ card.beyond) ++ post)
marks_are card done post fits =
    let more : Storage = map plain (chars_of card.beyond) ++ post in
    seven_marked (done ++ (card.first ∷ more)) (marked_places (card.from + 1) card.beyond) fits.marks
    ∙ ap (λ (s : Storage). marks_over s (marked_places (card.from + 1) card.beyond))
    (sym (append_assoc done (card.first ∷ []) more))
    ∙ all_cells_set card.beyond post (done ++ card.first ∷ []) (card.from + 1)
    (omega (arith, fits.from, length-append done (card.first ∷ [])))
    ∙ append_assoc done (card.first ∷ []) (card.beyond ++ post)

-- a card that is read next, with the loader's word marks in place
abbrev pub AtRead : State → List Card → Storage → Type 0
AtRead last [] rest = ⊥
AtRead last (card ∷ hopper) rest = (length card.0 ≡ 80) × Leaves last hopper (with_card loader_marks card.0 rest) 40

pub one_card : (last : State) (card : CellCard) (more : List Card) (done post : Storage) → Fits card done
    → AtRead last more (done ++ ((card.first ∷ card.beyond) ++ post))
    → AtRead last (card_of card ∷ more) (done ++ (blanks (length card.beyond + 1) ++ post))
one_card last card [] done post fits next = absurd next
one_card last card (first ∷ hopper) done post fits next = (
  card_length card fits.columns,
  subst (λ (front : List ℕ). Leaves last (first ∷ hopper) (with_card loader_marks (front ++ code_chars (code_of card))
      (done ++ (blanks (length card.beyond + 1) ++ post))) 40) (front_is card fits.columns)
      (loaded_or_moved last (first ∷ hopper) card done post card.first.mark refl (what_it_brings card done fits)
      (all_set last (first ∷ hopper) (front_of card) (code_of card)
      (done ++ (first_marked card.first.mark (chars_of (card.first ∷ card.beyond)) ++ post)) (places_of card done post fits)
      (subst (λ (rest : Storage). Leaves last (first ∷ hopper)
      (with_card loader_marks (card_chars (front_of card) (code_of card)) rest) 75) (sym (marks_are card done post fits))
      (card_read last hopper (front_of card) (code_of card) first (done ++ ((card.first ∷ card.beyond) ++ post)) next.0
      next.1)))),
)
