-- A tape mark adds no card; any other record adds its own, or is too long.
use Rattle.std.proofs.Common.{ℕ, List, ◌++◌, Result, ◌∙◌, sym, ap, append-nil, arith, inr, refl}
use Rattle.devices_1401.specs.declared.card.Card.{Card}
use Rattle.job_runner.specs.DeckText.{card_text}
use Rattle.program_convert.specs.Decks.{text_after, with_card}
use Rattle.program_convert.proofs.DeckLemmas.{cards_with-card, cards_with-long, cards_with-mark, text_after-card}
use Rattle.program_convert.proofs.decks.put_record.Goals as goal

pub returns-then-is_mark : goal.returns-then-is_mark
returns-then-is_mark c = record {
  text = λ rest. ap (λ (deck : Result (List Card) ℕ). text_after c.args.text.now.items deck)
      (sym (cards_with-mark c.args.parity c.args.number c.args.tape_record.now rest
      (sym c.is_mark.ensures ∙ c.if-is_mark.true)));
  err = tt;
}

pub returns-then-len-gt-CARD_COLUMNS-clause-err : goal.returns-then-len-gt-CARD_COLUMNS-clause-err
returns-then-len-gt-CARD_COLUMNS-clause-err c =
    inr (
      refl,
      λ rest. cards_with-long c.args.parity c.args.number c.args.tape_record.now rest
          (sym c.is_mark.ensures ∙ c.if-is_mark.false) (omega (arith, c.if-len-gt-CARD_COLUMNS.true, c.len.ensures.value)),
    )

pub returns-in-Ok-clause-text : goal.returns-in-Ok-clause-text
returns-in-Ok-clause-text c =
    let old : List ℕ = c.args.text.now.items in
    λ rest. ap (λ (text : List ℕ). text_after text rest)
    (c.in-Ok.ensures ∙ ap (λ (text : List ℕ). old ++ text) (append-nil (card_text c.record_card.result)))
    ∙ text_after-card old c.record_card.result rest
    ∙ ap (λ (card : Card). text_after old (with_card card rest)) c.record_card.ensures
    ∙ ap (λ (deck : Result (List Card) ℕ). text_after old deck)
    (sym (cards_with-card c.args.parity c.args.number c.args.tape_record.now rest
    (sym c.is_mark.ensures ∙ c.if-is_mark.false)
    (omega (arith, c.if-len-gt-CARD_COLUMNS.false, c.len.ensures.value))))
