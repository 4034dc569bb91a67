-- The cards of all cells, the card that begins the program, and the whole deck.
use Rattle.std.proofs.Common.{◌≡◌, ℕ, zero, suc, ◌+◌, ◌-◌, ◌*◌, ◌<◌, ◌≤◌, nat_lt, Bool, true, false, List, [], ◌∷◌}
use Rattle.std.proofs.Common.{◌++◌}
use Rattle.std.proofs.Common.{length, map, take, replicate, if◌then◌else◌, refl, ap, sym, subst, ◌∙◌, arith}
use Rattle.std.proofs.lemmas.Bool.{ltb-false, ltb-true}
use Rattle.std.proofs.lemmas.List.{append_assoc, append-nil, length-append, length-take-le}
use Rattle.std.proofs.lemmas.List.{replicate-append-replicate}
use Rattle.bcd_1401.specs.declared.cell.Cell.{Cell}
use Rattle.bcd_1401.specs.Graphic.{graphics}
use Rattle.core_1401.specs.Places.{with_cells}
use Rattle.core_1401.specs.Storage.{Storage, blank, blanks}
use Rattle.devices_1401.specs.declared.card.Card.{Card}
use Rattle.devices_1401.specs.Devices.{no_cards}
use Rattle.fields_1401.specs.Marks.{cleared}
use Rattle.machine_tables.specs.declared.operation.Operation.TheVariants as op
use Rattle.cpu_1401.specs.Run.{plain_run_for}
use Rattle.cpu_1401.specs.State.{State, power_on}
use Rattle.cpu_1401.specs.Stepped.{step_to}
use Rattle.autocoder_deck.specs.Card.{CellCard, cards_from, fitting, more_columns, most_marks}
use Rattle.autocoder_deck.specs.Contents.{is_blank}
use Rattle.autocoder_deck.specs.Loading.{loaded}
use Rattle.autocoder_deck.proofs.AddressLemmas.{effective_is}
use Rattle.autocoder_deck.proofs.BroughtLemmas.{blank_next, covered_next, fitting_most, only_blanks, part_filled}
use Rattle.autocoder_deck.proofs.BroughtLemmas.{same_blank}
use Rattle.autocoder_deck.proofs.CardsLemmas.{AtRead, card_of, one_card}
use Rattle.autocoder_deck.proofs.ClearCardLemmas.{clear_chars, first_card}
use Rattle.autocoder_deck.proofs.FittingLemmas.{fitting_columns, fitting_marks}
use Rattle.autocoder_deck.proofs.LoaderCardLemmas.{loader_card, loader_chars, loader_left, loader_marks}
use Rattle.autocoder_deck.proofs.PlacesLemmas.{cells_in_front, chars_over, with_marks}
use Rattle.autocoder_deck.proofs.ProgramLemmas.{in_front, instruction, read_next, spelled, with_card}
use Rattle.autocoder_deck.proofs.StepLemmas.{LeadsPlainly, Leaves, clear_and_branch_step, cleared_down, machine, one_step}

-- what follows the cards, with one cell more
abbrev Filled : State → List Card → ℕ → Storage → Cell → List Cell → Type 0
Filled last end from done cell cells =
    (next : ℕ) → next ≤ length cells
    → AtRead last (map card_of (cards_from next (from + 1) cells) ++ end) (part_filled (done ++ cell ∷ []) next cells)

one_cell : (last : State) (end : List Card) (on_card is_empty : Bool) (covered from : ℕ) (done : Storage)
    (cells : List Cell) (cell : Cell) → nat_lt 0 covered ≡ on_card → is_blank cell ≡ is_empty
    → from ≡ 81 + length done → covered ≤ length (cell ∷ cells) → Filled last end from done cell cells
    → AtRead last (map card_of (if on_card then cards_from (covered - 1) (from + 1) cells
    else if is_empty then cards_from 0 (from + 1) cells
    else record {
      from = from;
      first = cell;
      beyond = take (fitting more_columns most_marks cells) cells;
    } ∷ cards_from (fitting more_columns most_marks cells) (from + 1) cells) ++ end) (part_filled done covered (cell ∷ cells))
one_cell last end true is_empty covered from done cells cell on e h few more =
    let some : 0 < covered = ltb-true 0 covered on in
    subst (AtRead last (map card_of (cards_from (covered - 1) (from + 1) cells) ++ end))
    (sym (covered_next covered done cells cell some)) (more (covered - 1) (omega arith))
one_cell last end false is_empty (suc n) from done cells cell on e h few more =
    absurd (omega (arith, ltb-false 0 (suc n) on))
one_cell last end false true zero from done cells cell on e h few more =
    subst (AtRead last (map card_of (cards_from 0 (from + 1) cells) ++ end))
    (sym (blank_next done cells cell (same_blank cell.char cell.mark e))) (more 0 (omega arith))
one_cell last end false false zero from done cells cell on e h few more =
    let n = fitting more_columns most_marks cells in
    let most : n ≤ length cells = fitting_most more_columns most_marks cells in
    let beyond : List Cell = take n cells in
    let size : length beyond ≡ n = length-take-le n cells most in
    let post : Storage = blanks (length cells - n) in
    let sum : length beyond + 1 + (length cells - n) ≡ suc (length cells) = omega (arith, size, most) in
    let card : CellCard = record { from = from; first = cell; beyond = beyond } in
    let cards : List Card = map card_of (cards_from n (from + 1) cells) ++ end in
    let before : part_filled done 0 (cell ∷ cells) ≡ done ++ (blanks (length beyond + 1) ++ post) =
    only_blanks done cells cell ∙ ap (λ (k : ℕ). done ++ blanks k) (sym sum)
    ∙ ap (λ (s : Storage). done ++ s) (sym (replicate-append-replicate (length beyond + 1) (length cells - n) blank)) in
    let after : part_filled (done ++ cell ∷ []) n cells ≡ done ++ ((cell ∷ beyond) ++ post) =
    append_assoc (done ++ cell ∷ []) beyond post ∙ append_assoc done (cell ∷ []) (beyond ++ post) in
    subst (AtRead last (card_of card ∷ cards)) (sym before)
    (one_card last card cards done post (record {
      from = h;
      columns = omega (arith, size, fitting_columns more_columns most_marks cells);
      marks = fitting_marks more_columns most_marks (from + 1) cells;
    }) (subst (AtRead last cards) after (more n most)))

all_cards : (last : State) (end : List Card) (covered from : ℕ) (done : Storage) (cells : List Cell)
    → from ≡ 81 + length done → covered ≤ length cells → AtRead last end (done ++ cells)
    → AtRead last (map card_of (cards_from covered from cells) ++ end) (part_filled done covered cells)
all_cards last end zero from done [] h few more =
    subst (AtRead last end) (sym (append-nil (done ++ []))) more
all_cards last end (suc n) from done [] h few more = absurd (omega (arith, few))
all_cards last end covered from done (cell ∷ cells) h few more =
    one_cell last end (nat_lt 0 covered) (is_blank cell) covered from done cells cell refl refl h few
    (λ n some. all_cards last end n (from + 1) (done ++ cell ∷ []) cells
    (omega (arith, h, length-append done (cell ∷ []))) some
    (subst (AtRead last end) (sym (append_assoc done (cell ∷ []) cells)) more))

-- the columns of the last card
abbrev pub start_line : ℕ → List ℕ
start_line start = replicate 39 0 ++ 17 ∷ spelled start (10 ∷ 8 ∷ 10 ∷ [])

-- its characters
abbrev pub start_chars : ℕ → List ℕ
start_chars start = start_line start ++ replicate 34 0

-- the machine at the first step of a program, with the cards after the deck
abbrev pub ready : Storage → ℕ → List Card → State
ready storage start beyond =
    record (power_on 0) { storage = storage; i = start; devices = record no_cards { hopper = beyond } }

card_cleared : (start : ℕ) (rest : Storage)
    → cleared_down (with_card loader_marks (start_chars start) rest) 80 ≡ blanks 81 ++ rest
unfolding cleared with_cells
card_cleared start rest =
    cells_in_front (with_marks loader_marks 0 (0 ∷ start_chars start)) rest 80 81 (λ i. blank) (omega arith)

no_more_steps : (storage : Storage) (start : ℕ) (beyond : List Card) (a b : ℕ)
    → LeadsPlainly (machine (power_on 0) beyond storage start a b) (ready storage start beyond)
unfolding plain_run_for
no_more_steps storage start beyond a b = record { steps = 0; a = a; b = b; run = refl }

-- it clears the places of the card and branches
start_card : (start : ℕ) (rest : Storage) (beyond : List Card)
    → Leaves (ready (blanks 81 ++ rest) start beyond) beyond (with_card loader_marks (start_chars start) rest) 40
unfolding graphics
start_card start rest beyond a b =
    let front = with_marks loader_marks 0 (0 ∷ start_chars start) in
    let storage = with_card loader_marks (start_chars start) rest in
    let after = blanks 81 ++ rest in
    one_step (machine (power_on 0) beyond storage 40 a b) (machine (power_on 0) beyond after start start 47)
    (ready after start beyond)
    (clear_and_branch_step (machine (power_on 0) beyond storage 40 a b) start 80
    (instruction front rest 40 op.ClearStorage 7 refl refl refl refl)
    (effective_is storage 41 start refl refl refl) refl (in_front front rest 80 refl)
    ∙ ap (λ (s : Storage). step_to (machine (power_on 0) beyond s start start 47)) (card_cleared start rest))
    (no_more_steps after start beyond start 47)

-- all cards after the first two
abbrev pub later_cards : List Cell → ℕ → List Card
later_cards cells start = map card_of (cards_from 0 81 cells) ++ record { 0 = start_chars start } ∷ []

all_read : (cells : List Cell) (start : ℕ) (beyond : List Card)
    → AtRead (ready (blanks 81 ++ cells) start beyond) (later_cards cells start ++ beyond) (blanks (length cells))
all_read cells start beyond =
    let last = ready (blanks 81 ++ cells) start beyond in
    let end : Card = record { 0 = start_chars start } in
    let cards : List Card = map card_of (cards_from 0 81 cells) in
    let none : blanks (length cells - 0) ≡ blanks (length cells) = ap blanks (omega arith) in
    subst (λ (deck : List Card). AtRead last deck (blanks (length cells))) (sym (append_assoc cards (end ∷ []) beyond))
    (subst (AtRead last (cards ++ end ∷ beyond)) none
    (all_cards last (end ∷ beyond) 0 81 [] cells (omega arith) (omega arith) (refl, start_card start cells beyond)))

-- the second card reads the third
third_read : (last : State) (hopper : List Card) (rest : Storage) → AtRead last hopper rest
    → Leaves last hopper (with_card loader_marks loader_left rest) 67
unfolding graphics
third_read last [] rest next = absurd next
third_read last (card ∷ hopper) rest next =
    let front = with_marks loader_marks 0 (0 ∷ loader_left) in
    read_next last card hopper (with_card loader_marks loader_left rest) (with_card loader_marks card.0 rest) 67 40
    (instruction front rest 67 op.ReadCard 4 refl refl refl refl) refl
    (chars_over loader_marks (blank ∷ []) rest 1 loader_left card.0 refl (sym next.0)) next.1

-- the cards of a deck for storage with these cells from 081 on
abbrev pub deck_cards : ℕ → List Cell → ℕ → List Card
deck_cards size cells start =
    record { 0 = clear_chars (size - 1) } ∷ record { 0 = loader_chars } ∷ later_cards cells start

-- Storage of a whole number of hundreds, with these cells from 081 on: the deck that the load key takes leaves them
-- there, and the cards after it in the hopper.
pub deck_loads : (size : ℕ) (cells : List Cell) (start k : ℕ) → size ≡ 100 * k + 200 → size ≤ 16000
    → size ≡ 81 + length cells → (beyond : List Card)
    → LeadsPlainly (loaded size (deck_cards size cells start ++ beyond)) (ready (blanks 81 ++ cells) start beyond)
deck_loads size cells start k hundreds most all beyond =
    let last = ready (blanks 81 ++ cells) start beyond in
    let later : List Card = later_cards cells start ++ beyond in
    let deck : ℕ → List Card = λ (address : ℕ). record { 0 = clear_chars address } ∷ record { 0 = loader_chars } ∷ later in
    let top : 100 * k + 199 ≡ size - 1 = omega (arith, hundreds) in
    subst (λ (n : ℕ). LeadsPlainly (loaded n (deck (size - 1))) last) (sym all)
    (subst (λ (address : ℕ). LeadsPlainly (loaded (81 + length cells) (deck address)) last) top
    (first_card last (record { 0 = loader_chars } ∷ later) (length cells) k (omega (arith, hundreds, all))
    (omega (arith, all, most))
    (loader_card last later (length cells) (length cells - 119) (omega (arith, hundreds, all))
    (third_read last later (blanks (length cells)) (all_read cells start beyond)))))
