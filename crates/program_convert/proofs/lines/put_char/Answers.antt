-- Two parts are put as one.
use Rattle.std.proofs.Common.{List, ℕ, [], ◌++◌, ◌∷◌, refl, subst}
use Rattle.std.specs.Prelude.{IsTrue, slice_index}
use Rattle.bcd_1401.specs.Graphic.{graphics}
use Rattle.program_convert.specs.Parity.{read_as}
use Rattle.bytes_streams.specs.Sink.{AppendsPart}
use Rattle.program_convert.specs.Writing.{Puts}
use Rattle.program_convert.proofs.PutsLemmas.{part_failed, puts_then}
use Rattle.program_convert.proofs.ReelListingLemmas.{char_parts}
use Rattle.program_convert.proofs.lines.put_char.Goals as goal

pub returns-in-Err-clause-puts : goal.returns-in-Err-clause-puts
returns-in-Err-clause-puts g c =
    let graphic : List ℕ = slice_index graphics (read_as c.args.parity c.args.char) ∷ [] in
    subst (λ (text : List ℕ). AppendsPart (g.W.Sink.received c.args.writer.now)
    (g.W.Sink.received c.put_text.new.writer) (c.args.page.now.items ++ text)
    × IsTrue (g.W.Sink.has_failed c.put_text.new.writer))
    (char_parts c.args.parity c.args.at c.args.char c.before_char.result.now graphic c.before_char.ensures refl)
    (part_failed _ _ _ c.args.page.now.items c.before_char.result.now graphic c.in-Err.ensures.puts)

pub returns-clause-puts : goal.returns-clause-puts
returns-clause-puts g c =
    subst (λ (text : List ℕ). Puts (g.W.Sink.received c.args.writer.now)
    (g.W.Sink.received c.put_text-2.new.writer) (g.W.Sink.has_failed c.put_text-2.new.writer)
    (c.args.page.now.items ++ text) c.put_text-2.new.page.items c.put_text-2.result)
    (char_parts c.args.parity c.args.at c.args.char c.before_char.result.now c.graphic_of.result
    c.before_char.ensures c.graphic_of.ensures)
    (puts_then _ _ _ _ c.args.page.now.items c.before_char.result.now _ c.graphic_of.result _ _ c.in-Ok.ensures.puts
    c.put_text-2.ensures.puts)
