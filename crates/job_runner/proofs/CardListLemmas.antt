-- The cards of characters, and of more characters after them.
use Rattle.std.proofs.Common.{◌≡◌, ◌<◌, ◌≤◌, ℕ, ◌+◌, zero, suc, List, [], ◌∷◌, ◌++◌, length, take, drop, refl, ◌∙◌}
use Rattle.std.proofs.Common.{ap, sym, subst, arith, get_or, Some}
use Rattle.std.proofs.lemmas.List.{append-nil, drop_all, drop-append-le, drop-drop, drop-take, length-append}
use Rattle.std.proofs.lemmas.List.{length-drop, length-take, take-append-le, take_all, take-take}
use Rattle.std.specs.List.{slice_get}
use Rattle.devices_1401.specs.declared.card.Card.{Card}
use Rattle.job_runner.specs.CardList.{AreOfCards, card_of_chars, cards_in, place_of}

-- as many as there are lengths
pub as_many : (lens chars : List ℕ) → length (cards_in lens chars) ≡ length lens
as_many [] chars = refl
as_many (len ∷ lens) chars = ap suc (as_many lens (drop len chars))

-- the characters of more cards come after all of those before
pub cards_in_append : (lens chars more others : List ℕ) → AreOfCards lens chars
    → cards_in (lens ++ more) (chars ++ others) ≡ cards_in lens chars ++ cards_in more others
cards_in_append [] chars more others none = ap (λ (all : List ℕ). cards_in more (all ++ others)) none
cards_in_append (len ∷ lens) chars more others (few, within, rest) =
    ap (λ (all : List ℕ). card_of_chars all ∷ cards_in (lens ++ more) (drop len (chars ++ others)))
    (take-append-le len chars others within)
    ∙ ap (λ (all : List ℕ). card_of_chars (take len chars) ∷ cards_in (lens ++ more) all)
    (drop-append-le len chars others within)
    ∙ ap (λ (cards : List Card). card_of_chars (take len chars) ∷ cards)
    (cards_in_append lens (drop len chars) more others rest)

pub are_of_cards_append : (lens chars more others : List ℕ) → AreOfCards lens chars → AreOfCards more others
    → AreOfCards (lens ++ more) (chars ++ others)
are_of_cards_append [] chars more others none those =
    subst (λ (all : List ℕ). AreOfCards more (all ++ others)) (sym none) those
are_of_cards_append (len ∷ lens) chars more others (few, within, rest) those = (
  few,
  omega (arith, within, length-append chars others),
  subst (AreOfCards (lens ++ more)) (sym (drop-append-le len chars others within))
      (are_of_cards_append lens (drop len chars) more others rest those),
)

-- a card with all its columns
pub alone : (card : Card) → length card.0 ≡ 80 → cards_in (80 ∷ []) card.0 ≡ card ∷ []
alone card full =
    let whole : take 80 card.0 ≡ card.0 = take_all 80 card.0 (omega (arith, full)) in
    rw (whole, full) (
    ap (λ (columns : List ℕ). (let it : Card = record { 0 = columns } in it) ∷ []) (append-nil card.0)
    )

pub alone_are : (card : Card) → length card.0 ≡ 80 → AreOfCards (80 ∷ []) card.0
alone_are card full = (omega arith, omega (arith, full), drop_all 80 card.0 (omega (arith, full)))

-- the characters of one card more
pub place_more : (lens : List ℕ) (cards : ℕ) → cards < length lens
    → place_of (cards + 1) lens ≡ place_of cards lens + get_or lens cards 0
place_more [] cards within = absurd (omega (arith, within))
place_more (len ∷ lens) zero within = omega arith
place_more (len ∷ lens) (suc cards) within =
    let next : suc cards + 1 ≡ suc (cards + 1) = omega arith in
    rw next (omega (arith, place_more lens cards (omega (arith, within))))

-- more cards after them change no place
pub place_append : (lens more : List ℕ) (cards : ℕ) → cards ≤ length lens
    → place_of cards (lens ++ more) ≡ place_of cards lens
place_append lens more zero within = refl
place_append [] more (suc cards) within = absurd (omega (arith, within))
place_append (len ∷ lens) more (suc cards) within =
    ap (λ n. len + n) (place_append lens more cards (omega (arith, within)))

-- no card has characters that aren't there
pub place_within : (lens chars : List ℕ) (cards : ℕ) → AreOfCards lens chars → place_of cards lens ≤ length chars
place_within lens chars zero all = omega arith
place_within [] chars (suc cards) all = omega arith
place_within (len ∷ lens) chars (suc cards) (few, within, rest) =
    omega (arith, within, length-drop len chars, place_within lens (drop len chars) cards rest)

-- a card is read at its place
pub record IsCardThere (lens chars : List ℕ) (cards : ℕ) : Type 0 where
  pub few : get_or lens cards 0 ≤ 80
  pub within : place_of cards lens + get_or lens cards 0 ≤ length chars
  pub card : slice_get (cards_in lens chars) cards
      ≡ Some (card_of_chars (take (get_or lens cards 0) (drop (place_of cards lens) chars)))

pub card_there : (lens chars : List ℕ) (cards : ℕ) → AreOfCards lens chars → cards < length lens
    → IsCardThere lens chars cards
card_there [] chars cards all there = absurd (omega (arith, there))
card_there (len ∷ lens) chars zero (few, within, rest) there = record {
  few = few;
  within = omega (arith, within);
  card = refl;
}
card_there (len ∷ lens) chars (suc cards) (few, within, rest) there =
    let beyond : IsCardThere lens (drop len chars) cards =
    card_there lens (drop len chars) cards rest (omega (arith, there)) in
    record {
      few = beyond.few;
      within = omega (arith, within, length-drop len chars, beyond.within);
      card =
          beyond.card
          ∙ ap (λ (all : List ℕ). Some (card_of_chars (take (get_or lens cards 0) all)))
          (drop-drop (place_of cards lens) len chars);
    }

-- the characters of the first cards
pub first_cards : (lens chars : List ℕ) (cards : ℕ) → AreOfCards lens chars
    → cards_in (take cards lens) (take (place_of cards lens) chars) ≡ take cards (cards_in lens chars)
first_cards lens chars zero all = refl
first_cards [] chars (suc cards) all = refl
first_cards (len ∷ lens) chars (suc cards) (few, within, rest) =
    let front : take len (take (len + place_of cards lens) chars) ≡ take len chars =
    take-take len (len + place_of cards lens) chars (omega arith) in
    ap (λ (all : List ℕ).
    card_of_chars all ∷ cards_in (take cards lens) (drop len (take (len + place_of cards lens) chars)))
    front
    ∙ ap (λ (all : List ℕ). card_of_chars (take len chars) ∷ cards_in (take cards lens) all)
    (drop-take len (place_of cards lens) chars)
    ∙ ap (λ (all : List Card). card_of_chars (take len chars) ∷ all) (first_cards lens (drop len chars) cards rest)

pub first_are : (lens chars : List ℕ) (cards : ℕ) → AreOfCards lens chars
    → AreOfCards (take cards lens) (take (place_of cards lens) chars)
first_are lens chars zero all = refl
first_are [] chars (suc cards) all = refl
first_are (len ∷ lens) chars (suc cards) (few, within, rest) = (
  few,
  omega (arith, within, length-take (len + place_of cards lens) chars),
  subst (AreOfCards (take cards lens)) (sym (drop-take len (place_of cards lens) chars))
      (first_are lens (drop len chars) cards rest),
)

-- there are no others
pub all_kept : (cards : List Card) (count : ℕ) → length cards ≤ count → cards ≡ take count cards
all_kept cards count few = sym (take_all count cards few)
