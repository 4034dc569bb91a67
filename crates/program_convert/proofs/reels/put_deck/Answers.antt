-- The record of one card more, or of no more.
use Rattle.std.proofs.Common.{◌≡◌, ℕ, List, ◌++◌, true, map, ◌∙◌, sym, ap, subst, arith}
use Rattle.std.proofs.lemmas.Bool.{and_from}
use Rattle.std.specs.List.{list_all}
use Rattle.bytes_streams.specs.Page.{Sent}
use Rattle.bytes_streams.proofs.SentLemmas.{sent_none}
use Rattle.devices_1401.specs.declared.card.Card.{Card}
use Rattle.machine_tapes.specs.Held.{is_record}
use Rattle.machine_tapes.specs.TapText.{record_text, tap_text}
use Rattle.machine_tapes.proofs.TapWriteLemmas.{tap_text-first, tap_text-none}
use Rattle.program_convert.specs.Decks.{are_whole, card_record}
use Rattle.program_convert.proofs.DeckLemmas.{more_whole}
use Rattle.program_convert.proofs.PutsLemmas.{step_end, step_failed, step_sent}
use Rattle.program_convert.proofs.reels.put_deck.Goals as goal

pub loop-card-init : goal.loop-card-init
loop-card-init g c =
    let old = g.W.Sink.received c.args.writer.now in
    let page : List ℕ = c.args.page.now.items in
    let text : List Card → List ℕ = λ cards. tap_text (map (card_record c.args.parity) cards) in
    let is = c.new-deck.ensures in
    record {
      sent = subst (λ (cards : List Card). Sent old old (page ++ text c.args.cards.now) (page ++ text cards)) (sym is)
          (sent_none old (page ++ text c.args.cards.now));
      good = λ good. subst
          (λ (cards : List Card). list_all is_record (map (card_record c.args.parity) cards) ≡ true) is good;
      whole = λ whole. subst (λ (cards : List Card). are_whole cards ≡ true) is whole;
      capacity = omega arith;
    }

pub returns-in-Err-clause-puts : goal.returns-in-Err-clause-puts
returns-in-Err-clause-puts g c =
    let at = c.loop-card in
    let text : List Card → List ℕ = λ cards. tap_text (map (card_record c.args.parity) cards) in
    let chars = card_record c.args.parity c.in-Some.card in
    let beyond : List Card = c.next_card.new.deck in
    step_failed _ _ _ _ (c.args.page.now.items ++ text c.args.cards.now) at.page.items (record_text chars)
    (text at.deck) (text beyond) at.invariant.sent
    (ap text c.in-Some.ensures.card ∙ tap_text-first chars (map (card_record c.args.parity) beyond))
    c.in-Err.ensures.puts

pub loop-card-preserved : goal.loop-card-preserved
loop-card-preserved g c =
    let at = c.loop-card in
    let s = at.invariant in
    let text : List Card → List ℕ = λ cards. tap_text (map (card_record c.args.parity) cards) in
    let card = c.in-Some.card in
    let chars = card_record c.args.parity card in
    let beyond : List Card = c.next_card.new.deck in
    let is = c.in-Some.ensures.card in
    record {
      sent = step_sent _ _ _ (c.args.page.now.items ++ text c.args.cards.now) at.page.items (record_text chars)
          (text at.deck) (text beyond) c.put_card.new.page.items s.sent
          (ap text is ∙ tap_text-first chars (map (card_record c.args.parity) beyond)) c.in-Ok.ensures.puts;
      good = λ good. s.good (subst
          (λ (cards : List Card). list_all is_record (map (card_record c.args.parity) cards) ≡ true) (sym is)
          (and_from (is_record chars) (list_all is_record (map (card_record c.args.parity) beyond))
          c.in-Ok.ensures.good good));
      whole = λ whole. s.whole (subst (λ (cards : List Card). are_whole cards ≡ true) (sym is)
          (more_whole card beyond c.in-Some.ensures.whole whole));
      capacity = omega (arith, s.capacity, c.in-Ok.ensures.capacity);
    }

pub returns-clause-puts : goal.returns-clause-puts
returns-clause-puts g c =
    let at = c.loop-card in
    let text : List Card → List ℕ = λ cards. tap_text (map (card_record c.args.parity) cards) in
    step_end _ _ (c.args.page.now.items ++ text c.args.cards.now) at.page.items (text at.deck) at.invariant.sent
    (ap text c.in_default.ensures.card ∙ tap_text-none)

pub returns-clause-good : goal.returns-clause-good
returns-clause-good g c =
    c.loop-card.invariant.good
    (ap (λ (cards : List Card). list_all is_record (map (card_record c.args.parity) cards)) c.in_default.ensures.card)

pub returns-clause-whole : goal.returns-clause-whole
returns-clause-whole g c =
    c.loop-card.invariant.whole (ap (λ (cards : List Card). are_whole cards) c.in_default.ensures.card)
