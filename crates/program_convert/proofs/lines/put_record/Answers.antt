-- The record is a tape mark, or it isn't.
use Rattle.std.proofs.Common.{List, ℕ, ◌++◌, ◌∙◌, sym, subst}
use Rattle.program_convert.specs.Writing.{Puts}
use Rattle.program_convert.proofs.ReelListingLemmas.{record_lines-data, record_lines-mark}
use Rattle.program_convert.proofs.lines.put_record.Goals as goal

pub returns-then-is_mark-clause-puts : goal.returns-then-is_mark-clause-puts
returns-then-is_mark-clause-puts g c =
    subst (λ (lines : List ℕ). Puts (g.W.Sink.received c.args.writer.now) (g.W.Sink.received c.put_mark.new.writer)
    (g.W.Sink.has_failed c.put_mark.new.writer) (c.args.page.now.items ++ lines) c.put_mark.new.page.items
    c.put_mark.result)
    (record_lines-mark c.args.parity c.args.number c.args.tape_record.now (sym c.is_mark.ensures ∙ c.if-is_mark.true))
    c.put_mark.ensures.puts

pub returns-else-is_mark-clause-puts : goal.returns-else-is_mark-clause-puts
returns-else-is_mark-clause-puts g c =
    subst (λ (lines : List ℕ). Puts (g.W.Sink.received c.args.writer.now) (g.W.Sink.received c.put_data.new.writer)
    (g.W.Sink.has_failed c.put_data.new.writer) (c.args.page.now.items ++ lines) c.put_data.new.page.items
    c.put_data.result)
    (record_lines-data c.args.parity c.args.number c.args.tape_record.now (sym c.is_mark.ensures ∙ c.if-is_mark.false))
    c.put_data.ensures.puts
