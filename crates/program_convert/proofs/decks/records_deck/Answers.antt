-- The cards of one record more, or of no more.
use Rattle.std.proofs.Common.{ℕ, ◌+◌, List, [], Result, Ok, length, ◌∙◌, sym, ap, append-nil, arith}
use Rattle.devices_1401.specs.declared.card.Card.{Card}
use Rattle.program_convert.specs.Decks.{cards_from, text_after}
use Rattle.program_convert.proofs.CountLemmas.{few_records}
use Rattle.program_convert.proofs.DeckLemmas.{cards_from-first, cards_from-none, no_cards_at}
use Rattle.program_convert.proofs.decks.records_deck.Goals as goal

pub loop-first-init : goal.loop-first-init
loop-first-init c = record {
  deck = ap (λ (text : List ℕ). text_after text (cards_from c.args.parity 1 c.again-rest.result)) c.new-text.ensures.items
      ∙ ap (λ (records : List (List ℕ)). text_after [] (cards_from c.args.parity 1 records)) c.again-rest.ensures.value;
  few = omega (
    arith,
    few_records c.args.records.now c.again-rest.ensures.good,
    c.again-rest.ensures.most,
    ap length c.again-rest.ensures.value,
  );
}

pub returns-in-Err-clause-err : goal.returns-in-Err-clause-err
returns-in-Err-clause-err c =
    let at = c.loop-first in
    no_cards_at c.args.parity at.number at.text.items c.args.records.now at.rest c.in-Some.beyond c.in-Some.first _
    at.invariant.deck c.in-Some.ensures.first c.in-Err.ensures.err

pub loop-first-preserved : goal.loop-first-preserved
loop-first-preserved c =
    let at = c.loop-first in
    let beyond : List (List ℕ) = c.in-Some.beyond in
    record {
      deck = c.in-Ok.ensures.text (cards_from c.args.parity (at.number + 1) beyond)
          ∙ ap (λ (deck : Result (List Card) ℕ). text_after at.text.items deck)
          (sym (ap (λ (records : List (List ℕ)). cards_from c.args.parity at.number records) c.in-Some.ensures.first
          ∙ cards_from-first c.args.parity at.number c.in-Some.first beyond))
          ∙ at.invariant.deck;
      few = omega (arith, at.invariant.few, ap length c.in-Some.ensures.first);
    }

pub returns-clause-deck : goal.returns-clause-deck
returns-clause-deck c =
    let at = c.loop-first in
    sym at.invariant.deck
    ∙ ap (λ (records : List (List ℕ)). text_after at.text.items (cards_from c.args.parity at.number records))
    c.in_default.ensures.first
    ∙ ap (λ (deck : Result (List Card) ℕ). text_after at.text.items deck) (cards_from-none c.args.parity at.number)
    ∙ ap (λ (text : List ℕ). let result : Result (List ℕ) ℕ = Ok text in result) (append-nil at.text.items)
