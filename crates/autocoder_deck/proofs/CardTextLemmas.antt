-- The text of a deck is that of its cards: a line is read as the card with its characters.
use Rattle.std.proofs.Common.{◌≡◌, ℕ, zero, suc, ◌+◌, ◌-◌, ◌/◌, ◌%◌, ◌<◌, ◌≤◌, ◌==◌, ◌&&◌, not, nat_lt, Bool, true}
use Rattle.std.proofs.Common.{false, List, []}
use Rattle.std.proofs.Common.{◌∷◌, ◌++◌, length, map, take, replicate, Some, if◌then◌else◌, refl, ap, ◌∙◌, arith, cond}
use Rattle.std.specs.Prelude.{slice_index, Result, Ok, position}
use Rattle.std.specs.Char.{to_ascii_uppercase}
use Rattle.std.specs.List.{All, list_all, prefix_len, range_with_len, slice_split}
use Rattle.std.proofs.lemmas.Bool.{and_parts, eqb-true}
use Rattle.std.proofs.lemmas.Bool.Decides.{nat_tests}
use Rattle.std.proofs.lemmas.List.{length-map}
use Rattle.std.proofs.lemmas.List.Elements.{All-cons, All-nil}
use Rattle.std.proofs.lemmas.List.Splits.{length-slice_split, slice_split_at}
use Rattle.bcd_1401.specs.Character.{digit_under}
use Rattle.bcd_1401.specs.Graphic.{graphics}
use Rattle.bcd_1401.proofs.CardCodeLemmas.{of_each}
use Rattle.bcd_1401.proofs.GraphicLemmas.{own_place}
use Rattle.core_1401.specs.Address.{spelling_of}
use Rattle.devices_1401.specs.declared.card.Card.{Card}
use Rattle.autocoder_statements.specs.SourceLine.{is_line_feed, lines_between, lines_of, without_return}
use Rattle.job_runner.specs.declared.deck_text.DeckTextFault.{DeckTextFault}
use Rattle.job_runner.specs.DeckText.{card_before, card_of_line, char_of, code_of, deck_from, has_char}
use Rattle.job_runner.proofs.DeckTextLemmas.{card_of-full, some_char}

-- the graphic of a character
abbrev pub graphic : ℕ → ℕ
graphic char = slice_index graphics char

-- characters, one by one
abbrev pub Chars : List ℕ → Type 0
Chars [] = Unit {0}
Chars (char ∷ chars) = (char < 64) × Chars chars

pub chars_both : (xs ys : List ℕ) → Chars xs → Chars ys → Chars (xs ++ ys)
chars_both [] ys front beyond = beyond
chars_both (x ∷ xs) ys front beyond = (front.0, chars_both xs ys front.1 beyond)

-- no graphic ends a line, and none is a small letter
abbrev is_column : ℕ → Bool
is_column char =
    (not (graphic char == 10) && not (graphic char == 13)) && (to_ascii_uppercase (graphic char) == graphic char)

all_columns : list_all is_column (range_with_len 0 64) ≡ true
unfolding graphics
all_columns = refl

not_so : (b : Bool) → not b ≡ true → b ≡ false
not_so false e = refl
not_so true e = absurd cc

no_end : (char : ℕ) → char < 64 → (graphic char == 10) ≡ false
no_end char lt =
    let all = and_parts (not (graphic char == 10) && not (graphic char == 13))
    (to_ascii_uppercase (graphic char) == graphic char) (of_each is_column all_columns char lt) in
    not_so (graphic char == 10) (and_parts (not (graphic char == 10)) (not (graphic char == 13)) all.0).0

no_return : (char : ℕ) → char < 64 → (graphic char == 13) ≡ false
no_return char lt =
    let all = and_parts (not (graphic char == 10) && not (graphic char == 13))
    (to_ascii_uppercase (graphic char) == graphic char) (of_each is_column all_columns char lt) in
    not_so (graphic char == 13) (and_parts (not (graphic char == 10)) (not (graphic char == 13)) all.0).1

no_small : (char : ℕ) → char < 64 → to_ascii_uppercase (graphic char) ≡ graphic char
no_small char lt =
    let all = and_parts (not (graphic char == 10) && not (graphic char == 13))
    (to_ascii_uppercase (graphic char) == graphic char) (of_each is_column all_columns char lt) in
    eqb-true (to_ascii_uppercase (graphic char)) (graphic char) all.1

own_char : (char : ℕ) → char < 64 → char_of (graphic char) ≡ Some char
own_char char lt =
    ap (λ (byte : ℕ). position (λ each. each == byte) graphics) (no_small char lt) ∙ own_place char lt

-- all bytes of a line have characters, and these are the line's
all_have : (chars : List ℕ) → Chars chars → prefix_len has_char (map graphic chars) ≡ length (map graphic chars)
all_have [] are = refl
all_have (char ∷ chars) are =
    let there : has_char (graphic char) ≡ true = (some_char (char_of (graphic char)) char (own_char char are.0)).0 in
    let more = prefix_len has_char (map graphic chars) in
    let one : 1 + length (map graphic chars) ≡ suc (length (map graphic chars)) = omega arith in
    ap (λ (b : Bool). cond b (1 + more) 0) there ∙ ap (λ (n : ℕ). 1 + n) (all_have chars are.1) ∙ one

chars_again : (chars : List ℕ) → Chars chars → map code_of (map graphic chars) ≡ chars
chars_again [] are = refl
chars_again (char ∷ chars) are =
    ap (λ (c : ℕ). c ∷ map code_of (map graphic chars)) ((some_char (char_of (graphic char)) char (own_char char are.0)).1)
    ∙ ap (λ (more : List ℕ). char ∷ more) (chars_again chars are.1)

-- a card with these characters, and blanks
abbrev pub padded : List ℕ → Card
padded chars = record { 0 = chars ++ replicate (80 - length chars) 0 }

line_read : (number : ℕ) (chars : List ℕ) → Chars chars → length chars ≤ 80
    → card_of_line number (map graphic chars) ≡ Ok (padded chars)
line_read number chars are few =
    let size : length (map graphic chars) ≡ length chars = length-map chars graphic in
    card_of-full number (map graphic chars) (omega (arith, size, few)) (all_have chars are)
    ∙ ap (λ (cs : List ℕ). let read : Result Card DeckTextFault =
    Ok (record { 0 = cs ++ replicate (80 - length (map graphic chars)) 0 }) in read) (chars_again chars are)
    ∙ ap (λ (n : ℕ). let read : Result Card DeckTextFault = Ok (record { 0 = chars ++ replicate (80 - n) 0 }) in read) size

-- a line is the first of a text
no_ends : (chars : List ℕ) → Chars chars → All (λ byte. is_line_feed byte ≡ false) (map graphic chars)
no_ends [] are = All-nil (λ byte. is_line_feed byte ≡ false)
no_ends (char ∷ chars) are =
    All-cons (λ byte. is_line_feed byte ≡ false) (graphic char) (map graphic chars) (no_end char are.0)
    (no_ends chars are.1)

no_return_at : (chars : List ℕ) (k : ℕ) → Chars chars → (slice_index (map graphic chars) k == 13) ≡ false
no_return_at [] k are = refl
no_return_at (char ∷ chars) zero are = no_return char are.0
no_return_at (char ∷ chars) (suc k) are = no_return_at chars k are.1

first_between : (line : List ℕ) (parts : List (List ℕ)) → 0 < length parts
    → lines_between (line ∷ parts) ≡ without_return line ∷ lines_between parts
first_between line [] some = absurd (omega (arith, some))
first_between line (next ∷ more) some = refl

first_line : (chars text : List ℕ) → Chars chars
    → lines_of (map graphic chars ++ 10 ∷ text) ≡ map graphic chars ∷ lines_of text
first_line chars text are =
    let line = map graphic chars in
    ap lines_between (slice_split_at is_line_feed line 10 text (no_ends chars are) refl)
    ∙ first_between line (slice_split is_line_feed text) (omega (arith, length-slice_split is_line_feed text))
    ∙ ap (λ (b : Bool). (if b then take (length line - 1) line else line) ∷ lines_of text)
    (no_return_at chars (length line - 1) are)

-- a deck with one card more
pub first_card_read : (number : ℕ) (chars text : List ℕ) (deck : List Card) → Chars chars → length chars ≤ 80
    → deck_from (number + 1) (lines_of text) ≡ Ok deck
    → deck_from number (lines_of (map graphic chars ++ 10 ∷ text)) ≡ Ok (padded chars ∷ deck)
first_card_read number chars text deck are few more =
    ap (deck_from number) (first_line chars text are)
    ∙ ap (λ (card : Result Card DeckTextFault). card_before card (deck_from (number + 1) (lines_of text)))
    (line_read number chars are few)
    ∙ ap (card_before (Ok (padded chars))) more

-- spelled addresses are characters
digit_below : (zone digit : ℕ) → zone < 4 → digit ≤ 9 → digit_under zone digit < 64
digit_below zone digit few small = grind (arith, nat_tests)

pub spelled_chars : (x : ℕ) (chars : List ℕ) → x < 16000 → Chars chars
    → Chars (slice_index (spelling_of x) 0 ∷ slice_index (spelling_of x) 1 ∷ slice_index (spelling_of x) 2 ∷ chars)
spelled_chars x chars lt are = (
  digit_below (x / 1000 % 4) (x / 100 % 10) (omega arith) (omega arith),
  (
    digit_below 0 (x / 10 % 10) (omega arith) (omega arith),
    (digit_below (x / 4000) (x % 10) (omega (arith, lt)) (omega arith), are),
  ),
)

-- characters that are written out
pub written_chars : (chars : List ℕ) → list_all (λ char. nat_lt char 64) chars ≡ true → Chars chars
written_chars [] e = tt
written_chars (char ∷ chars) e =
    let parts = and_parts (nat_lt char 64) (list_all (λ c. nat_lt c 64) chars) e in
    (below char parts.0, written_chars chars parts.1)
  where
    below : (c : ℕ) → nat_lt c 64 ≡ true → c < 64
    below c h = grind (arith, nat_tests)
