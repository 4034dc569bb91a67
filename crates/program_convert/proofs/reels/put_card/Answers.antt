-- Three parts are put as one.
use Rattle.std.proofs.Common.{rules, ◌≡◌, List, ℕ, ◌++◌, length, subst}
use Rattle.std.specs.Prelude.{IsTrue}
use Rattle.bytes_streams.specs.Sink.{AppendsPart}
use Rattle.program_convert.specs.Decks.{card_record}
use Rattle.program_convert.specs.Writing.{Puts}
use Rattle.program_convert.proofs.PutsLemmas.{part_failed, part_then_failed, puts_then}
use Rattle.program_convert.proofs.ReelTextLemmas.{card_parts}
use Rattle.program_convert.proofs.reels.put_card.Goals as goal

pub returns-in-Err-clause-puts : goal.returns-in-Err-clause-puts
returns-in-Err-clause-puts g c =
    let size : List ℕ = c.length_text-length.result in
    let codes : List ℕ = c.card_record-characters.result in
    let whole : length codes ≡ 80 = search rules in
    subst (λ (text : List ℕ). AppendsPart (g.W.Sink.received c.args.writer.now)
    (g.W.Sink.received c.put_text.new.writer) (c.args.page.now.items ++ text)
    × IsTrue (g.W.Sink.has_failed c.put_text.new.writer))
    (card_parts size codes (card_record c.args.parity c.args.card) c.length_text-length.ensures
    c.card_record-characters.ensures.value whole)
    (part_failed _ _ _ c.args.page.now.items size (codes ++ size) c.in-Err.ensures.puts)

pub returns-in-Err-put_text-clause-puts : goal.returns-in-Err-put_text-clause-puts
returns-in-Err-put_text-clause-puts g c =
    let size : List ℕ = c.length_text-length.result in
    let codes : List ℕ = c.card_record-characters.result in
    let whole : length codes ≡ 80 = search rules in
    subst (λ (text : List ℕ). AppendsPart (g.W.Sink.received c.args.writer.now)
    (g.W.Sink.received c.put_text-2.new.writer) (c.args.page.now.items ++ text)
    × IsTrue (g.W.Sink.has_failed c.put_text-2.new.writer))
    (card_parts size codes (card_record c.args.parity c.args.card) c.length_text-length.ensures
    c.card_record-characters.ensures.value whole)
    (part_then_failed _ _ _ _ c.args.page.now.items size c.put_text.new.page.items (codes ++ size) c.in-Ok.ensures.puts
    (part_failed _ _ _ c.put_text.new.page.items codes size c.in-Err-put_text.ensures.puts))

pub returns-clause-puts : goal.returns-clause-puts
returns-clause-puts g c =
    let size : List ℕ = c.length_text-length.result in
    let codes : List ℕ = c.card_record-characters.result in
    let whole : length codes ≡ 80 = search rules in
    let last = c.put_text-3 in
    subst (λ (text : List ℕ). Puts (g.W.Sink.received c.args.writer.now) (g.W.Sink.received last.new.writer)
    (g.W.Sink.has_failed last.new.writer) (c.args.page.now.items ++ text) last.new.page.items last.result)
    (card_parts size codes (card_record c.args.parity c.args.card) c.length_text-length.ensures
    c.card_record-characters.ensures.value whole)
    (puts_then _ _ _ _ c.args.page.now.items size c.put_text.new.page.items (codes ++ size) _ _ c.in-Ok.ensures.puts
    (puts_then _ _ _ _ c.put_text.new.page.items codes c.put_text-2.new.page.items size _ _
    c.in-Ok-put_text.ensures.puts last.ensures.puts))
