-- The deck of core storage loads itself.
use Rattle.std.proofs.Common.{◌≡◌, ℕ, ◌+◌, ◌-◌, ◌*◌, ◌/◌, ◌<◌, ◌≤◌, true, List, [], ◌∷◌, ◌++◌, length, take, drop}
use Rattle.std.proofs.Common.{refl, ap, sym, ◌∙◌, subst, arith}
use Rattle.std.specs.Prelude.{None}
use Rattle.std.proofs.lemmas.Bool.Decides.{nat_tests}
use Rattle.std.proofs.lemmas.List.{length-drop, length-take-le, take-append-drop}
use Rattle.bcd_1401.specs.declared.cell.Cell.{Cell}
use Rattle.core_1401.specs.Storage.{Storage, blanks, is_core_size}
use Rattle.core_1401.proofs.HeldLemmas.{most_places}
use Rattle.cpu_1401.specs.FittingLaw.{FittingLaw}
use Rattle.autocoder_deck.specs.Card.{HaveChars}
use Rattle.autocoder_deck.specs.Contents.{card_places, first_taken}
use Rattle.autocoder_deck.specs.Deck.{storage_deck}
use Rattle.autocoder_deck.specs.Loading.{LoadsItself, at_entry, loaded}
use Rattle.autocoder_deck.proofs.BroughtLemmas.{all_blank}
use Rattle.autocoder_deck.proofs.CardsLemmas.{chars_of}
use Rattle.autocoder_deck.proofs.CardTextLemmas.{Chars}
use Rattle.autocoder_deck.proofs.DeckLemmas.{deck_cards, deck_loads}
use Rattle.autocoder_deck.proofs.DeckTextLemmas.{deck_read}
use Rattle.autocoder_deck.proofs.StepLemmas.{LeadsPlainly, leads}

-- a size of core storage is a whole number of hundreds
hundreds : (size : ℕ) → is_core_size size ≡ true → size ≡ 100 * ((size - 200) / 100) + 200
hundreds size e = grind (arith, nat_tests)

-- storage with nothing under the cards
front_is_blank : (storage : Storage) → card_places ≤ length storage → first_taken storage ≡ None
    → blanks card_places ++ drop card_places storage ≡ storage
front_is_blank storage most none =
    let size : length (take card_places storage) ≡ card_places = length-take-le card_places storage most in
    ap (λ (front : Storage). front ++ drop card_places storage)
    (sym (all_blank 0 (take card_places storage) none ∙ ap blanks size))
    ∙ take-append-drop card_places storage

chars_are : (cells : List Cell) → HaveChars cells → Chars (chars_of cells)
chars_are [] are = tt
chars_are (cell ∷ cells) are = (are.0, chars_are cells are.1)

pub loads_itself : FittingLaw → (storage : Storage) (start : ℕ) → is_core_size (length storage) ≡ true → first_taken storage ≡ None
    → start < 16000 → HaveChars (drop card_places storage)
    → LoadsItself (storage_deck storage start) (length storage) storage start
loads_itself law storage start size none fits are =
    let cells : Storage = drop card_places storage in
    let most : length storage ≤ 16000 = most_places (length storage) size in
    let hundred = hundreds (length storage) size in
    let size_is : length storage ≡ 81 + length cells = omega (arith, hundred, length-drop card_places storage) in
    record {
      deck = deck_cards (length storage) cells start;
      cards = deck_read (length storage) cells start most size_is fits (chars_are cells are);
      begins = λ beyond.
          let first = loaded (length storage) (deck_cards (length storage) cells start ++ beyond) in
          leads law first (at_entry (length storage) storage start beyond) refl
          (subst (λ (s : Storage). LeadsPlainly first (at_entry (length storage) s start beyond))
          (front_is_blank storage (omega (arith, hundred)) none)
          (deck_loads (length storage) cells start ((length storage - 200) / 100) hundred most size_is beyond));
    }
