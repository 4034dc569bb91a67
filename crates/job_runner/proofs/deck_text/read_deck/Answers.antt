-- A line's card after those so far.
use Rattle.std.proofs.Common.{rules, ◌≡◌, ℕ, ◌+◌, List, [], ◌∷◌, length, Result, Ok, sym, ◌∙◌, ap, subst, arith}
use Rattle.std.proofs.lemmas.List.{length-append}
use Rattle.devices_1401.specs.declared.card.Card.{Card}
use Rattle.autocoder_statements.specs.SourceLine.{lines_of}
use Rattle.job_runner.specs.CardList.{cards_in}
use Rattle.job_runner.specs.DeckText.{card_before, card_of_line, deck_from}
use Rattle.job_runner.specs.declared.deck_text.DeckTextFault.{DeckTextFault}
use Rattle.job_runner.proofs.CardListLemmas.{as_many}
use Rattle.job_runner.proofs.DeckTextLemmas.{beyond, card_beyond, one_more}
use Rattle.job_runner.proofs.deck_text.read_deck.Goals as goal

pub loop-line-preserved : goal.loop-line-preserved
loop-line-preserved c =
    let s = c.loop-line.invariant in
    let line : List ℕ = c.in-Some.line.now in
    let lens : List ℕ = c.loop-line.lens.items in
    let chars : List ℕ = c.loop-line.chars.items in
    let lens' : List ℕ = c.put_card.new.lens.items in
    let chars' : List ℕ = c.put_card.new.chars.items in
    let card : Card = c.in_ok-card.card in
    let more : Result (List Card) DeckTextFault = deck_from (length lens + 1 + 1) (lines_of c.in-Some.beyond.now) in
    let number : c.saturating_add-number.result ≡ length lens + 1 = search rules in
    let is : ◌≡◌ {A = Result Card DeckTextFault} (card_of_line (length lens + 1) line) (Ok card) =
    subst (λ (n : ℕ). ◌≡◌ {A = Result Card DeckTextFault} (card_of_line n line) (Ok card)) number
    (sym c.in_ok-card.ensures) in
    let one = one_more (length lens + 1) lens chars lens' chars' line card s.held is c.in-Ok.ensures.lens
    c.in-Ok.ensures.chars in
    let longer : length lens' ≡ length lens + 1 =
    ap length c.in-Ok.ensures.lens ∙ length-append lens (length line ∷ []) in
    record {
      deck = s.deck
          ∙ ap (λ (lines : List (List ℕ)). beyond (cards_in lens chars) (deck_from (length lens + 1) lines))
          c.in-Some.ensures.0
          ∙ ap (λ (read : Result Card DeckTextFault). beyond (cards_in lens chars) (card_before read more)) is
          ∙ card_beyond (cards_in lens chars) card more
          ∙ ap (λ (cards : List Card). beyond cards more) (sym one.cards)
          ∙ ap (λ (n : ℕ). beyond (cards_in lens' chars') (deck_from (n + 1) (lines_of c.in-Some.beyond.now)))
          (sym longer);
      count = omega (arith, s.count, longer, ap length c.in-Some.ensures.0);
      held = one.held;
    }

pub returns-clause-count : goal.returns-clause-count
returns-clause-count c =
    let none : length (lines_of c.loop-line.rest.now) ≡ 0 =
    ap (λ (text : List ℕ). length (lines_of text)) c.in_default.ensures in
    omega (arith, as_many c.loop-line.lens.items c.loop-line.chars.items, c.loop-line.invariant.count, none)
