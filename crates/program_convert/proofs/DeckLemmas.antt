-- Records as cards, and cards as records.
use Rattle.std.proofs.Common.{◌≡◌, ℕ, ◌+◌, ◌-◌, ◌<◌, ◌≤◌, Bool, true, false, List, [], ◌∷◌, ◌++◌, length, map}
use Rattle.std.proofs.Common.{replicate}
use Rattle.std.proofs.Common.{refl, sym, ap}
use Rattle.std.proofs.Common.{◌∙◌, Result, Ok, Err, append_assoc, append-nil, arith, inl, inr}
use Rattle.std.proofs.lemmas.Bool.{and_from, and_parts, eq-eqb, eqb-true, le-leb, lt-leb, not-true}
use Rattle.std.proofs.lemmas.List.{length-map}
use Rattle.std.specs.List.{flat_map, list_all}
use Rattle.std.specs.Prelude.{◌⊎◌, nat_eq, not, if◌then◌else◌}
use Rattle.devices_1401.specs.declared.card.Card.{Card}
use Rattle.job_runner.specs.DeckText.{card_text}
use Rattle.machine_tapes.specs.Reel.{is_tape_mark, tape_mark}
use Rattle.machine_tapes.specs.TapReading.{records_read}
use Rattle.program_arguments.specs.declared.call.Parity.{Parity}
use Rattle.program_arguments.specs.declared.call.Parity.TheVariants.{Even, Odd}
use Rattle.program_convert.specs.Decks.{are_whole, card_record, cards_from, cards_with, deck_records, reel_cards}
use Rattle.program_convert.specs.Decks.{record_card}
use Rattle.program_convert.specs.Decks.{text_after, with_card, StayAsTheyAre}
use Rattle.program_convert.specs.Decks.{reel_deck_text}
use Rattle.program_convert.specs.Did.{IsWhyNoCards, IsWhyNoDeck, IsWhyNoReel}
use Rattle.program_convert.specs.Parity.{read_as, taped}
use Rattle.program_convert.specs.declared.reel_fault.ReelFault.{ReelFault}
use Rattle.program_convert.specs.declared.reel_fault.ReelFault.TheVariants as fault

-- what a record adds
pub cards_with-mark : (parity : Parity) (number : ℕ) (chars : List ℕ) (rest : Result (List Card) ℕ)
    → is_tape_mark chars ≡ true → cards_with parity number chars rest ≡ rest
unfolding cards_with
cards_with-mark parity number chars rest is = rw is refl

pub cards_with-card : (parity : Parity) (number : ℕ) (chars : List ℕ) (rest : Result (List Card) ℕ)
    → is_tape_mark chars ≡ false → length chars ≤ 80
    → cards_with parity number chars rest ≡ with_card (record_card parity chars) rest
unfolding cards_with
cards_with-card parity number chars rest is fits = rw (is, le-leb (length chars) 80 fits) refl

pub cards_with-long : (parity : Parity) (number : ℕ) (chars : List ℕ) (rest : Result (List Card) ℕ)
    → is_tape_mark chars ≡ false → 80 < length chars → cards_with parity number chars rest ≡ Err number
unfolding cards_with
cards_with-long parity number chars rest is long = rw (is, lt-leb (length chars) 80 long) refl

-- the text of a card, and then that of others
pub text_after-card : (text : List ℕ) (card : Card) (rest : Result (List Card) ℕ)
    → text_after (text ++ card_text card) rest ≡ text_after text (with_card card rest)
text_after-card text card (Ok cards) =
    ap (λ (all : List ℕ). let result : Result (List ℕ) ℕ = Ok all in result)
    (append_assoc text (card_text card) (flat_map card_text cards))
text_after-card text card (Err number) = refl

-- the records from one on
pub cards_from-first : (parity : Parity) (number : ℕ) (chars : List ℕ) (records : List (List ℕ))
    → cards_from parity number (chars ∷ records) ≡ cards_with parity number chars (cards_from parity (number + 1)
    records)
unfolding cards_from
cards_from-first parity number chars records = refl

pub cards_from-none : (parity : Parity) (number : ℕ) → cards_from parity number [] ≡ Ok []
unfolding cards_from
cards_from-none parity number = refl

-- a card's record is no tape mark
pub long_is_none : (chars : List ℕ) → length chars ≡ 80 → is_tape_mark chars ≡ false
long_is_none [] long = absurd (omega arith)
long_is_none (char ∷ []) long = absurd (omega arith)
long_is_none (char ∷ next ∷ chars) long = refl

-- a character on tape is read as it was
even_by : (zero : Bool) (char : ℕ) → nat_eq char 0 ≡ zero → nat_eq char 16 ≡ false
    → read_as Even (if zero then 16 else char) ≡ char
even_by true char is other = sym (eqb-true char 0 is)
even_by false char is other = rw other refl

even_again : (chars : List ℕ) → list_all (λ char. not (nat_eq char 16)) chars ≡ true
    → map (read_as Even) (map (taped Even) chars) ≡ chars
even_again [] all = refl
even_again (char ∷ chars) all =
    let parts = and_parts (not (nat_eq char 16)) (list_all (λ each. not (nat_eq each 16)) chars) all in
    ap (λ (first : ℕ). first ∷ map (read_as Even) (map (taped Even) chars))
    (even_by (nat_eq char 0) char refl (not-true (nat_eq char 16) parts.0))
    ∙ ap (λ (rest : List ℕ). char ∷ rest) (even_again chars parts.1)

odd_again : (chars : List ℕ) → map (read_as Odd) (map (taped Odd) chars) ≡ chars
odd_again [] = refl
odd_again (char ∷ chars) = ap (λ (rest : List ℕ). char ∷ rest) (odd_again chars)

-- of each card of such a deck, and of those after it
first_again : (parity : Parity) (card : Card) (cards : List Card) → StayAsTheyAre parity (card ∷ cards)
    → map (read_as parity) (card_record parity card) ≡ card.0
first_again Odd card cards stay = odd_again card.0
first_again Even card cards stay =
    even_again card.0 (and_parts (list_all (λ char. not (nat_eq char 16)) card.0)
    (list_all (λ (each : Card). list_all (λ char. not (nat_eq char 16)) each.0) cards) stay).0

others_stay : (parity : Parity) (card : Card) (cards : List Card) → StayAsTheyAre parity (card ∷ cards)
    → StayAsTheyAre parity cards
others_stay Odd card cards stay = tt
others_stay Even card cards stay =
    (and_parts (list_all (λ char. not (nat_eq char 16)) card.0)
    (list_all (λ (each : Card). list_all (λ char. not (nat_eq char 16)) each.0) cards) stay).1

-- whether the first card has all its columns, and the others
pub first_whole : (card : Card) (cards : List Card) → are_whole (card ∷ cards) ≡ true
    → (length card.0 ≡ 80) × (are_whole cards ≡ true)
first_whole card cards whole =
    let parts = and_parts (nat_eq (length card.0) 80) (are_whole cards) whole in
    (eqb-true (length card.0) 80 parts.0, parts.1)

pub more_whole : (card : Card) (cards : List Card) → length card.0 ≡ 80 → are_whole cards ≡ true
    → are_whole (card ∷ cards) ≡ true
more_whole card cards long whole =
    and_from (nat_eq (length card.0) 80) (are_whole cards) (eq-eqb (length card.0) 80 long) whole

-- the card of a record of a card is that card
card_again : (parity : Parity) (card : Card) → length card.0 ≡ 80
    → map (read_as parity) (card_record parity card) ≡ card.0 → record_card parity (card_record parity card) ≡ card
card_again parity card long same =
    let none : 80 - length (card_record parity card) ≡ 0 = omega (arith, length-map card.0 (taped parity), long) in
    ap (λ (chars : List ℕ). let one : Card = record { 0 = chars } in one)
    (ap (λ (n : ℕ). map (read_as parity) (card_record parity card) ++ replicate n 0) none
    ∙ append-nil (map (read_as parity) (card_record parity card)) ∙ same)

-- the cards of the records of a deck are that deck
from_again : (parity : Parity) (number : ℕ) (cards : List Card) → are_whole cards ≡ true → StayAsTheyAre parity cards
    → cards_from parity number (map (card_record parity) cards ++ tape_mark ∷ []) ≡ Ok cards
from_again parity number [] whole stay =
    cards_from-first parity number tape_mark [] ∙ cards_with-mark parity number tape_mark _ refl
    ∙ cards_from-none parity (number + 1)
from_again parity number (card ∷ cards) whole stay =
    let parts = first_whole card cards whole in
    let rest : List (List ℕ) = map (card_record parity) cards ++ tape_mark ∷ [] in
    let long : length (card_record parity card) ≡ 80 = length-map card.0 (taped parity) ∙ parts.0 in
    cards_from-first parity number (card_record parity card) rest
    ∙ cards_with-card parity number (card_record parity card) (cards_from parity (number + 1) rest)
    (long_is_none (card_record parity card) long) (omega (arith, long))
    ∙ ap (λ (one : Card). with_card one (cards_from parity (number + 1) rest))
    (card_again parity card parts.0 (first_again parity card cards stay))
    ∙ ap (λ (deck : Result (List Card) ℕ). with_card card deck)
    (from_again parity (number + 1) cards parts.1 (others_stay parity card cards stay))

pub deck_again : (parity : Parity) (cards : List Card) → are_whole cards ≡ true → StayAsTheyAre parity cards
    → reel_cards parity (deck_records parity cards) ≡ Ok cards
deck_again parity cards whole stay = from_again parity 1 cards whole stay

-- why there are no cards, at a record
pub no_cards_at : (parity : Parity) (number : ℕ) (text : List ℕ) (records rest beyond : List (List ℕ)) (first : List ℕ)
    (why : ReelFault) → text_after text (cards_from parity number rest) ≡ reel_deck_text parity records
    → rest ≡ first ∷ beyond
    → (why ≡ fault.Memory) ⊎ ((why ≡ fault.Record number)
    × ((others : Result (List Card) ℕ) → cards_with parity number first others ≡ Err number))
    → IsWhyNoCards parity records why
no_cards_at parity number text records rest beyond first why so_far split (inl is) = rw is tt
no_cards_at parity number text records rest beyond first why so_far split (inr both) =
    rw both.0 (sym so_far
    ∙ ap (λ (left : List (List ℕ)). text_after text (cards_from parity number left)) split
    ∙ ap (λ (deck : Result (List Card) ℕ). text_after text deck)
    (cards_from-first parity number first beyond ∙ both.1 (cards_from parity (number + 1) beyond)))

-- of the reel of a text
pub no_deck : (parity : Parity) (text : List ℕ) (records : List (List ℕ)) (why : ReelFault)
    → records_read text ≡ Ok records → IsWhyNoCards parity records why → IsWhyNoDeck parity text why
no_deck parity text records (fault.File name cause) read why_not = why_not
no_deck parity text records (fault.Reel cause) read why_not = absurd why_not
no_deck parity text records (fault.Record number) read why_not =
    record { records = records; read = read; long = why_not }
no_deck parity text records fault.Full read why_not = why_not
no_deck parity text records fault.Memory read why_not = rw read refl
no_deck parity text records fault.Output read why_not = why_not
no_deck parity text records (fault.Unwritten name) read why_not = why_not
no_deck parity text records (fault.OneFile one other) read why_not = why_not

pub no_reel : (parity : Parity) (text : List ℕ) (why : ReelFault) → IsWhyNoReel text why → IsWhyNoDeck parity text why
no_reel parity text (fault.File name cause) why_not = why_not
no_reel parity text (fault.Reel cause) why_not = why_not
no_reel parity text (fault.Record number) why_not = absurd why_not
no_reel parity text fault.Full why_not = why_not
no_reel parity text fault.Memory why_not = why_not
no_reel parity text fault.Output why_not = why_not
no_reel parity text (fault.Unwritten name) why_not = why_not
no_reel parity text (fault.OneFile one other) why_not = why_not

-- a card's record has as many characters as the card
pub record_length : (parity : Parity) (card : Card) → length card.0 ≡ 80 → length (card_record parity card) ≡ 80
record_length parity card long = length-map card.0 (taped parity) ∙ long
