-- The card of a line, and the cards of lines.
use Rattle.std.proofs.Common.{◌≡◌, ℕ, ◌+◌, ◌-◌, ◌<◌, ◌≤◌, ◌==◌, Bool, true, false, List, [], ◌∷◌, ◌++◌, length, take}
use Rattle.std.proofs.Common.{map, replicate, if◌then◌else◌, Option, None, Some, refl, ◌∙◌, ap, sym, subst, arith}
use Rattle.std.proofs.Common.{take_all}
use Rattle.std.proofs.lemmas.Bool.Decides.{nat_tests}
use Rattle.std.proofs.lemmas.List.{append_assoc, drop_all, length-map, take-append-le}
use Rattle.std.specs.List.{prefix_len}
use Rattle.std.specs.Prelude.{is_some, nat_lt, unwrap_or, Result, Ok, Err}
use Rattle.devices_1401.specs.declared.card.Card.{Card}
use Rattle.job_runner.specs.declared.deck_text.DeckTextFault.{DeckTextFault}
use Rattle.job_runner.specs.declared.deck_text.DeckTextFault.TheVariants.{Graphic, Length}
use Rattle.job_runner.specs.CardList.{AreOfCards, card_of_chars, cards_in}
use Rattle.job_runner.specs.DeckText.{card_before, card_of_line, card_with, code_of, columns_filled, fault_beyond}
use Rattle.job_runner.specs.DeckText.{has_char}
use Rattle.job_runner.proofs.CardListLemmas.{are_of_cards_append, cards_in_append}

-- all bytes fill columns
pub card_of-full : (number : ℕ) (line : List ℕ) → length line ≤ 80 → prefix_len has_char line ≡ length line
    → card_of_line number line ≡ Ok (card_with line)
unfolding card_of_line
card_of-full number line few all =
    let full : (columns_filled line == length line) ≡ true = grind (arith, nat_tests) in
    rw full refl

-- some don't
card_of-less : (number n : ℕ) (line : List ℕ) → columns_filled line ≡ n → n < length line
    → card_of_line number line ≡ Err (fault_beyond number n)
unfolding card_of_line
card_of-less number n line filled more =
    let less : (columns_filled line == length line) ≡ false = grind (arith, nat_tests) in
    rw less (ap (λ (k : ℕ). let result : Result Card DeckTextFault = Err (fault_beyond number k) in result) filled)

pub card_of-missed : (number i : ℕ) (line : List ℕ) → prefix_len has_char line ≡ i → i < length line → i < 80
    → card_of_line number line ≡ Err (Graphic number (i + 1))
card_of-missed number i line filled more few =
    let within : nat_lt i 80 ≡ true = grind (arith, nat_tests) in
    card_of-less number i line (omega arith) more ∙ rw within refl

pub card_of-long : (number : ℕ) (line : List ℕ) → 80 ≤ prefix_len has_char line → 80 < length line
    → card_of_line number line ≡ Err (Length number)
card_of-long number line filled more = card_of-less number 80 line (omega arith) more

-- a byte's character
pub some_char : (char : Option ℕ) (code : ℕ) → char ≡ Some code → (is_some char ≡ true) × (unwrap_or char 0 ≡ code)
some_char char code is = (rw is refl, rw is refl)

pub no_char : (char : Option ℕ) → char ≡ None → is_some char ≡ false
no_char char is = rw is refl

-- cards after those so far
abbrev pub beyond : List Card → Result (List Card) DeckTextFault → Result (List Card) DeckTextFault
beyond so_far (Ok cards) = Ok (so_far ++ cards)
beyond so_far (Err fault) = Err fault

-- a line that is a card has at most 80 bytes, and is that card
pub card_fits : (number : ℕ) (line : List ℕ) (card : Card) → card_of_line number line ≡ Ok card
    → (length line ≤ 80) × (card_with line ≡ card)
unfolding card_of_line
card_fits number line card is = by (columns_filled line == length line) refl is
  where
    read : Bool → Result Card DeckTextFault
    read b = if b then Ok (card_with line) else Err (fault_beyond number (columns_filled line))

    by : (b : Bool) → (columns_filled line == length line) ≡ b → read b ≡ Ok card
        → (length line ≤ 80) × (card_with line ≡ card)
    by true e is = (grind (arith, nat_tests, e), cc)
    by false e is = absurd cc

-- the characters of a line are the first of its card
taken : (line : List ℕ) → take (length line) (card_with line).0 ≡ map code_of line
taken line =
    let n = length line in
    let whole = length-map line code_of in
    take-append-le n (map code_of line) (replicate (80 - n) 0) (omega (arith, whole))
    ∙ take_all n (map code_of line) (omega (arith, whole))

-- and make it again
made_again : (line : List ℕ) → card_of_chars (take (length line) (map code_of line)) ≡ card_with line
made_again line =
    ap card_of_chars (take_all (length line) (map code_of line) (omega (arith, length-map line code_of)))
    ∙ ap (λ (n : ℕ). let card : Card = record { 0 = map code_of line ++ replicate (80 - n) 0 } in card)
    (length-map line code_of)

-- the card of a line after those that are kept
pub record IsOneMore (lens chars lens' chars' : List ℕ) (card : Card) : Type 0 where
  pub cards : cards_in lens' chars' ≡ cards_in lens chars ++ card ∷ []
  pub held : AreOfCards lens' chars'

pub one_more : (number : ℕ) (lens chars lens' chars' line : List ℕ) (card : Card) → AreOfCards lens chars
    → card_of_line number line ≡ Ok card → lens' ≡ lens ++ length line ∷ []
    → chars' ≡ chars ++ take (length line) card.0 → IsOneMore lens chars lens' chars' card
one_more number lens chars lens' chars' line card held is lens_are chars_are =
    let few = card_fits number line card is in
    let front : take (length line) card.0 ≡ map code_of line =
    ap (λ (c : Card). take (length line) c.0) (sym few.1) ∙ taken line in
    let more : length (map code_of line) ≡ length line = length-map line code_of in
    let added : IsOneMore lens chars (lens ++ length line ∷ []) (chars ++ map code_of line) card =
    record {
      cards = cards_in_append lens chars (length line ∷ []) (map code_of line) held
          ∙ ap (λ (c : Card). cards_in lens chars ++ c ∷ []) (made_again line ∙ few.1);
      held = are_of_cards_append lens chars (length line ∷ []) (map code_of line) held
          (few.0, omega (arith, more), drop_all (length line) (map code_of line) (omega (arith, more)));
    } in
    subst (λ (l : List ℕ). IsOneMore lens chars l chars' card) (sym lens_are)
    (subst (λ (cs : List ℕ). IsOneMore lens chars (lens ++ length line ∷ []) cs card)
    (sym (chars_are ∙ ap (λ (cs : List ℕ). chars ++ cs) front)) added)

-- a card after those so far, and then the others
pub card_beyond : (so_far : List Card) (card : Card) (others : Result (List Card) DeckTextFault)
    → beyond so_far (card_before (Ok card) others) ≡ beyond (so_far ++ card ∷ []) others
card_beyond so_far card (Ok cards) =
    ap (λ (all : List Card). let read : Result (List Card) DeckTextFault = Ok all in read)
    (sym (append_assoc so_far (card ∷ []) cards))
card_beyond so_far card (Err fault) = refl
