-- The columns so far are the characters of the text so far, and the others are blank.
use Rattle.std.proofs.Common.{rules, ◌≡◌, ℕ, ◌+◌, ◌<◌, List, length, take, drop, get_or, map, replicate, Some, None}
use Rattle.std.proofs.Common.{refl, sym, ◌∙◌, ap, subst, arith, take_all}
use Rattle.std.proofs.lemmas.List.{drop-set-lt, length-set, length-take-le}
use Rattle.std.proofs.lemmas.Grind.{drop_more_same}
use Rattle.std.proofs.Common.{Err}
use Rattle.console_text.specs.CardText.{card_of}
use Rattle.console_text.specs.declared.line.LineFault.TheVariants.{Graphic, Length}
use Rattle.machine_notation.specs.Characters.{char_of, chars_of}
use Rattle.operate_program.specs.Act.{if_card}
use Rattle.console_text.proofs.CardTextLemmas.{card_of-columns, card_of-missed, card_of-long, chars_of-more}
use Rattle.console_text.proofs.CardTextLemmas.{chars_of-split}
use Rattle.operate_program.proofs.commands.read_card.Goals as goal

pub loop-i-init : goal.loop-i-init
unfolding chars_of
loop-i-init c = record { so_far = refl; blank = search rules; few = omega arith; room = search rules }

pub returns-then-i-eq-CARD_COLUMNS : goal.returns-then-i-eq-CARD_COLUMNS
returns-then-i-eq-CARD_COLUMNS c =
    let s = c.loop-i.invariant in
    let text : List ℕ = c.args.text.now in
    let parts = chars_of-split text c.loop-i.i (get_or text c.loop-i.i 0) c.loop-i-test.true refl in
    let refused : Err Length ≡ card_of (chars_of text) =
    rw (parts, s.so_far)
    (sym (card_of-long _ _ _
    (omega (arith, s.room, c.if-i-eq-CARD_COLUMNS.true, length-take-le c.loop-i.i c.loop-i.columns)))) in
    ap if_card refused

pub returns-in_default : goal.returns-in_default
returns-in_default c =
    let s = c.loop-i.invariant in
    let text : List ℕ = c.args.text.now in
    let none : char_of (get_or text c.loop-i.i 0) ≡ None = sym c.from_graphic.ensures ∙ c.in_default.is in
    let parts = chars_of-split text c.loop-i.i (get_or text c.loop-i.i 0) c.loop-i-test.true refl in
    let refused : Err Graphic ≡ card_of (chars_of text) =
    rw (parts, s.so_far, none)
    (sym (card_of-missed _ _
    (omega (arith, s.few, s.room, c.if-i-eq-CARD_COLUMNS.false, length-take-le c.loop-i.i c.loop-i.columns)))) in
    ap if_card refused

pub loop-i-preserved : goal.loop-i-preserved
loop-i-preserved c =
    let s = c.loop-i.invariant in
    let i = c.loop-i.i in
    let text : List ℕ = c.args.text.now in
    let columns = c.loop-i.columns in
    let char = c.in-Some.char in
    let read : char_of (get_or text i 0) ≡ Some char = sym c.from_graphic.ensures ∙ c.in-Some.is in
    let within : i < length columns = omega (arith, s.few, s.room, c.if-i-eq-CARD_COLUMNS.false) in
    record {
      so_far = chars_of-more text i columns char within c.loop-i-test.true s.so_far read;
      blank = drop-set-lt (i + 1) columns i char (omega arith) ∙ drop_more_same columns (replicate 80 0) i s.blank;
      few = omega (arith, s.few, c.if-i-eq-CARD_COLUMNS.false);
      room = length-set columns i char ∙ s.room;
    }

pub returns : goal.returns
returns c =
    let s = c.loop-i.invariant in
    let text : List ℕ = c.args.text.now in
    let all : c.loop-i.i ≡ length text = omega (arith, c.loop-i-test.false, c.loop-i.auto.i-end) in
    let so_far = subst (λ n. chars_of (take n text) ≡ map Some (take n c.loop-i.columns)) all s.so_far in
    let blank = subst (λ n. drop n c.loop-i.columns ≡ drop n (replicate 80 0)) all s.blank in
    let whole : take (length text) text ≡ text = take_all (length text) text (omega arith) in
    ap if_card
    (sym (card_of-columns text c.loop-i.columns (omega (arith, s.few, all)) s.room
    (sym (ap chars_of whole) ∙ so_far) blank))
