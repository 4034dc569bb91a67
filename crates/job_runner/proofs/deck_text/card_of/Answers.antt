-- One column more, or the first byte that fills none.
use Rattle.std.proofs.Common.{◌≡◌, ℕ, ◌+◌, ◌<◌, List, ◌++◌, ◌∷◌, [], length, take, drop, get_or, map, replicate}
use Rattle.std.proofs.Common.{◌-◌, ◌==◌, None, Some, sym, ◌∙◌, ap, arith, subst, take_all}
use Rattle.std.proofs.lemmas.Grind.{drop_more_same}
use Rattle.std.proofs.lemmas.List.{drop-replicate, drop-set-lt, length-set, map-append, take-append-drop, take_more}
use Rattle.std.proofs.lemmas.List.{take_more_set}
use Rattle.std.proofs.lemmas.List.Sums.{prefix_len-drop_all, prefix_len-drop_no, prefix_len-drop_yes}
use Rattle.std.specs.List.{prefix_len}
use Rattle.std.specs.Prelude.{Result, Ok, position}
use Rattle.bcd_1401.specs.Graphic.{graphics}
use Rattle.devices_1401.specs.declared.card.Card.{Card}
use Rattle.job_runner.specs.declared.deck_text.DeckTextFault.{DeckTextFault}
use Rattle.job_runner.specs.DeckText.{char_of, code_of, has_char}
use Rattle.job_runner.proofs.DeckTextLemmas.{card_of-full, card_of-long, card_of-missed, no_char, some_char}
use Rattle.job_runner.proofs.deck_text.card_of.Goals as goal

pub returns-then-i-eq-CARD_COLUMNS : goal.returns-then-i-eq-CARD_COLUMNS
returns-then-i-eq-CARD_COLUMNS c =
    let s = c.loop-i.invariant in
    sym (card_of-long c.args.number c.args.line.now (omega (arith, s.filled, c.if-i-eq-CARD_COLUMNS.true))
    (omega (arith, c.loop-i-test.true, c.if-i-eq-CARD_COLUMNS.true)))

pub returns-in_default : goal.returns-in_default
returns-in_default c =
    let s = c.loop-i.invariant in
    let line : List ℕ = c.args.line.now in
    let i = c.loop-i.i in
    let none : char_of (get_or line i 0) ≡ None =
    ap (λ (byte : ℕ). position (λ each. each == byte) graphics) (sym c.to_ascii_uppercase.ensures.value)
    ∙ sym c.from_graphic.ensures ∙ c.in_default.is in
    let stops = prefix_len-drop_no has_char line i 0 c.loop-i-test.true (no_char (char_of (get_or line i 0)) none) in
    sym (card_of-missed c.args.number i line (omega (arith, s.filled, stops)) c.loop-i-test.true
    (omega (arith, s.few, c.if-i-eq-CARD_COLUMNS.false)))

pub loop-i-preserved : goal.loop-i-preserved
loop-i-preserved c =
    let s = c.loop-i.invariant in
    let line : List ℕ = c.args.line.now in
    let i = c.loop-i.i in
    let columns = c.loop-i.columns in
    let char = c.in-Some.char in
    let byte = get_or line i 0 in
    let is : char_of byte ≡ Some char =
    ap (λ (read : ℕ). position (λ each. each == read) graphics) (sym c.to_ascii_uppercase.ensures.value)
    ∙ sym c.from_graphic.ensures ∙ c.in-Some.is in
    let known = some_char (char_of byte) char is in
    let goes_on = prefix_len-drop_yes has_char line i 0 c.loop-i-test.true known.0 in
    let within : i < length columns = omega (arith, s.few, s.room, c.if-i-eq-CARD_COLUMNS.false) in
    let more : map code_of (take (i + 1) line) ≡ map code_of (take i line) ++ code_of byte ∷ [] =
    ap (map code_of) (take_more line i 0 c.loop-i-test.true) ∙ map-append code_of (take i line) (byte ∷ []) in
    record {
      filled = omega (arith, s.filled, goes_on);
      so_far = take_more_set columns i char within
          ∙ ap (λ (front : List ℕ). front ++ char ∷ []) s.so_far
          ∙ ap (λ (code : ℕ). map code_of (take i line) ++ code ∷ []) (sym known.1)
          ∙ sym more;
      blank = drop-set-lt (i + 1) columns i char (omega arith) ∙ drop_more_same columns (replicate 80 0) i s.blank;
      few = omega (arith, s.few, c.if-i-eq-CARD_COLUMNS.false);
      room = length-set columns i char ∙ s.room;
    }

pub returns : goal.returns
returns c =
    let s = c.loop-i.invariant in
    let line : List ℕ = c.args.line.now in
    let n = length line in
    let columns = c.loop-i.columns in
    let all : c.loop-i.i ≡ n = omega (arith, c.loop-i-test.false, c.loop-i.auto.i-end) in
    let front : take n columns ≡ map code_of line =
    subst (λ (k : ℕ). take k columns ≡ map code_of (take k line)) all s.so_far
    ∙ ap (map code_of) (take_all n line (omega arith)) in
    let rest : drop n columns ≡ replicate (80 - n) 0 =
    subst (λ (k : ℕ). drop k columns ≡ drop k (replicate 80 0)) all s.blank ∙ drop-replicate n 80 0 in
    let whole : columns ≡ map code_of line ++ replicate (80 - n) 0 =
    sym (take-append-drop n columns)
    ∙ ap (λ (first : List ℕ). first ++ drop n columns) front
    ∙ ap (λ (blanks : List ℕ). map code_of line ++ blanks) rest in
    let none_left : prefix_len has_char (drop c.loop-i.i line) ≡ 0 =
    prefix_len-drop_all has_char line c.loop-i.i (omega (arith, all)) in
    ap (λ (chars : List ℕ). let card : Card = record { 0 = chars } in let result : Result Card DeckTextFault = Ok card in result)
    whole
    ∙ sym (card_of-full c.args.number line (omega (arith, s.few, all)) (omega (arith, s.filled, none_left, all)))
