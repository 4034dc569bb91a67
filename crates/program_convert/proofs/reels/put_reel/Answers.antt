-- The tape mark is put after the records of the cards.
use Rattle.std.proofs.Common.{List, ℕ, ◌++◌, ◌∙◌, ap, map, subst}
use Rattle.std.specs.Prelude.{IsTrue}
use Rattle.bytes_streams.specs.Sink.{AppendsPart}
use Rattle.machine_tapes.specs.TapText.{length_text, tap_text}
use Rattle.program_convert.specs.Decks.{card_record}
use Rattle.program_convert.specs.Writing.{Puts}
use Rattle.program_convert.proofs.PutsLemmas.{part_failed, puts_then}
use Rattle.program_convert.proofs.ReelTextLemmas.{mark_after}
use Rattle.program_convert.proofs.reels.put_reel.Goals as goal

pub returns-in-Err-clause-puts : goal.returns-in-Err-clause-puts
returns-in-Err-clause-puts g c =
    let records : List (List ℕ) = map (card_record c.args.parity) c.args.cards.now in
    subst (λ (text : List ℕ). AppendsPart (g.W.Sink.received c.args.writer.now)
    (g.W.Sink.received c.put_deck.new.writer) (c.args.page.now.items ++ text)
    × IsTrue (g.W.Sink.has_failed c.put_deck.new.writer)) (mark_after records)
    (part_failed _ _ _ c.args.page.now.items (tap_text records) (length_text 0) c.in-Err.ensures.puts)

pub returns-in-Ok-clause-puts : goal.returns-in-Ok-clause-puts
returns-in-Ok-clause-puts g c =
    let records : List (List ℕ) = map (card_record c.args.parity) c.args.cards.now in
    subst (λ (text : List ℕ). Puts (g.W.Sink.received c.args.writer.now) (g.W.Sink.received c.put_text.new.writer)
    (g.W.Sink.has_failed c.put_text.new.writer) (c.args.page.now.items ++ text) c.put_text.new.page.items
    c.put_text.result)
    (ap (λ (mark : List ℕ). tap_text records ++ mark) c.length_text-mark.ensures ∙ mark_after records)
    (puts_then _ _ _ _ c.args.page.now.items (tap_text records) c.put_deck.new.page.items c.length_text-mark.result _ _
    c.in-Ok.ensures.puts c.put_text.ensures.puts)
