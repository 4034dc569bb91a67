-- A card and its text.
use Rattle.std.proofs.Common.{◌≡◌, ℕ, zero, suc, ◌+◌, ◌-◌, ◌<◌, ◌≤◌, ◌==◌, Bool, true, false, List, [], ◌∷◌, ◌++◌}
use Rattle.std.proofs.Common.{length, take, drop, get_or, map, reverse, replicate, set, cond, Option, None, Some}
use Rattle.std.proofs.Common.{refl, sym, ap, ◌∙◌, arith, length-append}
use Rattle.std.specs.Prelude.{All, Ok, Err, position, slice_index}
use Rattle.std.specs.List.{prefix_len}
use Rattle.std.proofs.lemmas.Bool.{eqb-true}
use Rattle.std.proofs.lemmas.Bool.Decides.{nat_tests}
use Rattle.std.proofs.lemmas.List.{drop_more, drop-replicate, length-drop, length-map}
use Rattle.std.proofs.lemmas.List.{length-reverse, length-take, map-append, replicate-append-replicate}
use Rattle.std.proofs.lemmas.List.{reverse-append, reverse-reverse, take_at, take_more, take_more_set}
use Rattle.std.proofs.lemmas.List.{take-append-drop}
use Rattle.std.proofs.lemmas.List.Elements.{All-head, All-tail}
use Rattle.std.proofs.lemmas.List.Sums.{suffix_len-le-length}
use Rattle.bcd_1401.specs.Graphic.{graphics}
use Rattle.devices_1401.specs.declared.card.Card.{Card}
use Rattle.machine_commands.specs.declared.command.Command.TheVariants as command
use Rattle.console_text.specs.declared.line.Line.TheVariants.{Command}
use Rattle.console_text.specs.declared.line.LineFault.TheVariants.{Graphic, Length}
use Rattle.machine_notation.proofs.MissingLemmas.{all_there, missed, taken_all, taken_first, the_values}
use Rattle.machine_notation.specs.Characters.{char_of, chars_of, graphics_of, trimmed}
use Rattle.console_text.specs.CardText.{card_of, card_with}
use Rattle.console_text.specs.ConsoleLine.{feed_of}

-- characters that are there, 80 at most
pub card_of-all : (chars : List ℕ) → length chars ≤ 80 → card_of (map Some chars) ≡ Ok (card_with chars)
unfolding card_of
card_of-all chars few =
    let many = length-map chars Some in
    rw (taken_all 80 chars few, all_there, the_values) (grind (arith, nat_tests))

-- before the eightieth character a graphic is missed
pub card_of-missed : (chars : List ℕ) (more : List (Option ℕ)) → length chars < 80
    → card_of (map Some chars ++ None ∷ more) ≡ Err Graphic
unfolding card_of
card_of-missed chars more few = rw (missed 80 chars more few)

-- something follows the eightieth character
pub card_of-long : (chars : List ℕ) (char : Option ℕ) (more : List (Option ℕ)) → length chars ≡ 80
    → card_of (map Some chars ++ char ∷ more) ≡ Err Length
unfolding card_of
card_of-long chars char more eighty =
    let many = length-map chars Some in
    rw (taken_first 80 chars (char ∷ more) eighty, all_there)
    (grind (arith, nat_tests, length-append (map Some chars) (char ∷ more)))

-- a text by one of its bytes
pub chars_of-split : (text : List ℕ) (i byte : ℕ) → i < length text → byte ≡ get_or text i 0
    → chars_of text ≡ chars_of (take i text) ++ char_of byte ∷ chars_of (drop (i + 1) text)
unfolding chars_of
chars_of-split text i byte within is =
    let parts : text ≡ take i text ++ byte ∷ drop (i + 1) text =
    sym (take-append-drop i text)
    ∙ ap (λ rest. take i text ++ rest) (drop_more text i 0 within)
    ∙ ap (λ each. take i text ++ each ∷ drop (i + 1) text) (sym is) in
    ap (map char_of) parts ∙ map-append char_of (take i text) (byte ∷ drop (i + 1) text)

-- one character more
pub chars_of-more : (text : List ℕ) (i : ℕ) (columns : List ℕ) (char : ℕ) → i < length columns → i < length text
    → chars_of (take i text) ≡ map Some (take i columns) → char_of (get_or text i 0) ≡ Some char
    → chars_of (take (i + 1) text) ≡ map Some (take (i + 1) (set columns i char))
unfolding chars_of
chars_of-more text i columns char within inside so_far is =
    let byte = get_or text i 0 in
    let text_more : take (i + 1) text ≡ take i text ++ byte ∷ [] = take_more text i 0 inside in
    ap (map char_of) text_more ∙ map-append char_of (take i text) (byte ∷ [])
    ∙ rw (so_far, is) (sym (ap (map Some) (take_more_set columns i char within)
    ∙ map-append Some (take i columns) (char ∷ [])))

-- the columns of a card with a text in the first of them
pub card_of-columns : (text columns : List ℕ) → length text ≤ 80 → length columns ≡ 80
    → chars_of text ≡ map Some (take (length text) columns)
    → drop (length text) columns ≡ drop (length text) (replicate 80 0)
    → card_of (chars_of text) ≡ (let card : Card = record { 0 = columns } in Ok card)
card_of-columns text columns few room so_far blank =
    let n = length text in
    let first : List ℕ = take n columns in
    let long : length first ≡ n = omega (arith, length-take n columns) in
    let whole : first ++ replicate (80 - length first) 0 ≡ columns =
    ap (λ len. first ++ replicate (80 - len) 0) long
    ∙ ap (λ blanks. first ++ blanks) (sym (blank ∙ drop-replicate n 80 0))
    ∙ take-append-drop n columns in
    ap card_of so_far ∙ card_of-all first (omega arith)
    ∙ ap (λ (chars : List ℕ). let card : Card = record { 0 = chars } in Ok card) whole

-- characters by their own graphics are read again
pub graphics_again : (chars : List ℕ)
    → All (λ char. position (λ each. each == slice_index graphics char) graphics ≡ Some char) chars
    → chars_of (graphics_of chars) ≡ map Some chars
unfolding chars_of graphics_of
graphics_again [] all = refl
graphics_again (char ∷ chars) all =
    let P : ℕ → Type 0 = λ char. position (λ each. each == slice_index graphics char) graphics ≡ Some char in
    rw (All-head P char chars all, graphics_again chars (All-tail P char chars all)) refl

-- what passes a test for blanks in front is blanks
blanks_in_front : (is : Bool) (char : ℕ) (chars : List ℕ) → (char == 0) ≡ is
    → take (prefix_len (λ c. c == 0) chars) chars ≡ replicate (prefix_len (λ c. c == 0) chars) 0
    → take (cond is (1 + prefix_len (λ c. c == 0) chars) 0) (char ∷ chars)
    ≡ replicate (cond is (1 + prefix_len (λ c. c == 0) chars) 0) 0
blanks_in_front true char chars e more =
    let one_more : 1 + prefix_len (λ c. c == 0) chars ≡ suc (prefix_len (λ c. c == 0) chars) = omega arith in
    rw one_more
    (ap (λ first. first ∷ take (prefix_len (λ c. c == 0) chars) chars) (eqb-true char 0 e)
    ∙ ap (λ blanks. 0 ∷ blanks) more)
blanks_in_front false char chars e more = refl

all_blanks : (chars : List ℕ) → take (prefix_len (λ c. c == 0) chars) chars
    ≡ replicate (prefix_len (λ c. c == 0) chars) 0
all_blanks [] = refl
all_blanks (char ∷ chars) = blanks_in_front (char == 0) char chars refl (all_blanks chars)

reverse-replicate : (n : ℕ) → reverse (replicate {A = ℕ} n 0) ≡ replicate n 0
reverse-replicate zero = refl
reverse-replicate (suc n) =
    let one_more : n + 1 ≡ suc n = omega arith in
    reverse-append (0 ∷ []) (replicate n 0) ∙ ap (λ zeros. zeros ++ 0 ∷ []) (reverse-replicate n)
    ∙ replicate-append-replicate n 1 0 ∙ ap (λ count. replicate count 0) one_more

-- Characters are those without the blanks at their end, and these blanks.
record IsTrimmed (chars : List ℕ) : Type 0 where
  pub blanks : ℕ
  pub whole : chars ≡ trimmed chars ++ replicate blanks 0
  pub count : length (trimmed chars) + blanks ≡ length chars

trimmed_whole : (chars : List ℕ) → IsTrimmed chars
unfolding trimmed
trimmed_whole chars =
    let back : List ℕ = reverse chars in
    let n = prefix_len (λ c. c == 0) back in
    let front : List ℕ = reverse (drop n back) in
    let few : n ≤ length chars = suffix_len-le-length (λ c. c == 0) chars in
    let parts : back ≡ replicate n 0 ++ drop n back =
    sym (take-append-drop n back) ∙ ap (λ blanks. blanks ++ drop n back) (all_blanks back) in
    let whole : chars ≡ front ++ replicate n 0 =
    sym (reverse-reverse chars) ∙ ap reverse parts ∙ reverse-append (replicate n 0) (drop n back)
    ∙ ap (λ blanks. front ++ blanks) (reverse-replicate n) in
    let long : length front ≡ length chars - n =
    length-reverse (drop n back) ∙ length-drop n back ∙ ap (λ len. len - n) (length-reverse chars) in
    let kept : take (length chars - n) chars ≡ front =
    ap (take (length chars - n)) whole ∙ take_at front (replicate n 0) (length chars - n) long in
    record {
      blanks = n;
      whole = whole ∙ ap (λ first. first ++ replicate n 0) (sym kept);
      count = omega (arith, ap length kept, long, few);
    }

-- the blanks at the end of a card are those after its text
pub card_with-trimmed : (card : Card) → length card.0 ≡ 80 → card_with (trimmed card.0) ≡ card
card_with-trimmed card eighty =
    let t = trimmed_whole card.0 in
    let left : 80 - length (trimmed card.0) ≡ t.blanks = omega (arith, t.count, eighty) in
    ap (λ (chars : List ℕ). let each : Card = record { 0 = chars } in each)
    (ap (λ count. trimmed card.0 ++ replicate count 0) left ∙ sym t.whole)

-- no more characters are left than there were
pub trimmed_few : (chars : List ℕ) → length (trimmed chars) ≤ length chars
trimmed_few chars = let t = trimmed_whole chars in omega (arith, t.count)

-- a card that is shown is fed again
pub fed_again : (card : Card) → length card.0 ≡ 80
    → chars_of (graphics_of (trimmed card.0)) ≡ map Some (trimmed card.0)
    → feed_of (32 ∷ graphics_of (trimmed card.0)) ≡ Ok (Command (command.Feed card))
unfolding feed_of
fed_again card eighty again =
    let few : length (trimmed card.0) ≤ 80 = omega (arith, trimmed_few card.0, eighty) in
    rw (again, card_of-all (trimmed card.0) few, card_with-trimmed card eighty) refl
