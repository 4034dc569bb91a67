-- The text of the reel of a deck, record by record, and that it is read as these records.
use Rattle.std.proofs.Common.{◌≡◌, ℕ, ◌+◌, ◌*◌, ◌<◌, ◌≤◌, true, List, [], ◌∷◌, ◌++◌, length, map, refl, sym, ap, ◌∙◌}
use Rattle.std.proofs.Common.{append-nil, append_assoc, arith, Result, Ok, Err}
use Rattle.std.proofs.Math.ListN.{set}
use Rattle.std.proofs.lemmas.Bool.{and_from, and_parts, le-leb, lt-ltb}
use Rattle.std.proofs.lemmas.List.Elements.{All-set}
use Rattle.std.proofs.lemmas.List.Sums.{AllPass-from_list_all, list_all-from_AllPass, sum_by-cons}
use Rattle.std.specs.List.{list_all}
use Rattle.std.specs.Prelude.{⊤, nat_le, nat_lt, ◌&&◌, OnOk}
use Rattle.devices_1401.specs.declared.card.Card.{Card}
use Rattle.machine_tapes.specs.Held.{is_record}
use Rattle.machine_tapes.specs.Reel.{characters_in, most_characters, tape_mark}
use Rattle.machine_tapes.specs.TapReading.{records_read}
use Rattle.machine_tapes.specs.TapText.{length_text, odd_byte, record_text, tap_text}
use Rattle.machine_tapes.proofs.TapWriteLemmas.{tap_again, tap_text-first, tap_text-none}
use Rattle.program_arguments.specs.declared.call.Parity.{Parity}
use Rattle.program_convert.specs.Decks.{are_whole, card_record, deck_records, reel_cards, StayAsTheyAre}
use Rattle.program_convert.specs.declared.reel_fault.ReelFault.{ReelFault}
use Rattle.program_convert.proofs.DeckLemmas.{deck_again, first_whole, long_is_none, record_length}

-- codes of characters, and one of them replaced
pub range-set : (codes : List ℕ) (i code : ℕ) → code < 64 → list_all (λ char. nat_lt char 64) codes ≡ true
    → list_all (λ char. nat_lt char 64) (set codes i code) ≡ true
range-set codes i code few all =
    list_all-from_AllPass (λ char. nat_lt char 64) (set codes i code)
    (All-set (λ char. nat_lt char 64 ≡ true) codes i code (lt-ltb code 64 few)
    (AllPass-from_list_all (λ char. nat_lt char 64) codes all))

-- the text of a record as long as a card
no_byte_after : (n : ℕ) (characters : List ℕ) → n ≡ 80 → length_text n ++ characters ++ odd_byte n ++ length_text n
    ≡ length_text 80 ++ (characters ++ length_text 80)
unfolding odd_byte
no_byte_after n characters is =
    rw is (ap (λ (front : List ℕ). front ++ length_text 80) (append-nil (length_text 80 ++ characters))
    ∙ append_assoc (length_text 80) characters (length_text 80))

text_of_card : (characters : List ℕ) → length characters ≡ 80
    → record_text characters ≡ length_text 80 ++ (characters ++ length_text 80)
unfolding record_text
text_of_card characters long =
    rw (long_is_none characters long) (no_byte_after (length characters) characters long)

pub card_parts : (size codes characters : List ℕ) → size ≡ length_text 80 → codes ≡ characters → length codes ≡ 80
    → size ++ (codes ++ size) ≡ record_text characters
card_parts size codes characters is same long =
    rw (is, ← same) (sym (text_of_card codes long))

-- the text of a tape mark after records
text_of_mark : record_text tape_mark ≡ length_text 0
unfolding record_text
text_of_mark = refl

pub mark_after : (records : List (List ℕ)) → tap_text records ++ length_text 0 ≡ tap_text (records ++ tape_mark ∷ [])
mark_after [] =
    ap (λ (text : List ℕ). text ++ length_text 0) tap_text-none ∙ sym text_of_mark
    ∙ sym (append-nil (record_text tape_mark))
    ∙ ap (λ (text : List ℕ). record_text tape_mark ++ text) (sym tap_text-none) ∙ sym (tap_text-first tape_mark [])
mark_after (characters ∷ records) =
    ap (λ (text : List ℕ). text ++ length_text 0) (tap_text-first characters records)
    ∙ append_assoc (record_text characters) (tap_text records) (length_text 0)
    ∙ ap (λ (text : List ℕ). record_text characters ++ text) (mark_after records)
    ∙ sym (tap_text-first characters (records ++ tape_mark ∷ []))

-- a card's characters are a record
pub card_is_record : (characters : List ℕ) → length characters ≡ 80
    → list_all (λ char. nat_lt char 64) characters ≡ true → is_record characters ≡ true
card_is_record characters long all =
    and_from (nat_le 1 (length characters) && nat_le (length characters) most_characters)
    (list_all (λ char. nat_lt char 64) characters)
    (and_from (nat_le 1 (length characters)) (nat_le (length characters) most_characters)
    (le-leb 1 (length characters) (omega (arith, long)))
    (le-leb (length characters) most_characters (omega (arith, long)))) all

-- and so are those of a deck, with the tape mark
deck_is_good : (records : List (List ℕ)) → list_all is_record records ≡ true
    → list_all is_record (records ++ tape_mark ∷ []) ≡ true
deck_is_good [] good = refl
deck_is_good (characters ∷ records) good =
    let parts = and_parts (is_record characters) (list_all is_record records) good in
    and_from (is_record characters) (list_all is_record (records ++ tape_mark ∷ [])) parts.0
    (deck_is_good records parts.1)

-- how many characters they have
deck_characters : (parity : Parity) (cards : List Card) → are_whole cards ≡ true
    → characters_in (deck_records parity cards) ≡ 80 * length cards + 1
deck_characters parity [] whole = refl
deck_characters parity (card ∷ cards) whole =
    let parts = first_whole card cards whole in
    omega (
      arith,
      sum_by-cons (λ (each : List ℕ). length each) (card_record parity card) (deck_records parity cards),
      record_length parity card parts.0,
      deck_characters parity cards parts.1,
    )

-- the text of a deck is read as its records
deck_is_read : (parity : Parity) (cards : List Card) → are_whole cards ≡ true
    → list_all is_record (map (card_record parity) cards) ≡ true → 80 * length cards + 1 ≤ most_characters
    → records_read (tap_text (deck_records parity cards)) ≡ Ok (deck_records parity cards)
deck_is_read parity cards whole good few =
    tap_again (deck_records parity cards) (deck_is_good (map (card_record parity) cards) good)
    (omega (arith, deck_characters parity cards whole, few))

-- so it is where all was written, and the deck that is made of the records is the deck
pub read_if_written : (parity : Parity) (cards : List Card) (outcome : Result ⊤ ReelFault)
    → OnOk outcome (are_whole cards ≡ true)
    → OnOk outcome (list_all is_record (map (card_record parity) cards) ≡ true) → 80 * length cards + 1 ≤ most_characters
    → OnOk outcome (records_read (tap_text (deck_records parity cards)) ≡ Ok (deck_records parity cards))
read_if_written parity cards (Ok _) whole good few = deck_is_read parity cards whole good few
read_if_written parity cards (Err _) whole good few = tt

pub again_if_written : (parity : Parity) (cards : List Card) (outcome : Result ⊤ ReelFault)
    → OnOk outcome (are_whole cards ≡ true)
    → OnOk outcome (StayAsTheyAre parity cards → reel_cards parity (deck_records parity cards) ≡ Ok cards)
again_if_written parity cards (Ok _) whole = λ stay. deck_again parity cards whole stay
again_if_written parity cards (Err _) whole = tt
