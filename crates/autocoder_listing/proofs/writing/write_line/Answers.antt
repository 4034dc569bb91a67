-- What is put part by part is what is written for the line.
use Rattle.std.proofs.Common.{ℕ, List, ◌++◌, ◌∙◌, ap, subst}
use Rattle.autocoder_listing.specs.Pages.{Paged, Puts}
use Rattle.autocoder_listing.proofs.PagesLemmas.{line_parts, puts}
use Rattle.autocoder_listing.proofs.writing.write_line.Goals as goal

pub returns-clause-text : goal.returns-clause-text
returns-clause-text g c =
    let old : Paged = record {
      received = g.W.Sink.received c.args.writer.now;
      has_failed = g.W.Sink.has_failed c.args.writer.now;
      page = c.args.pages.now;
    } in
    let literals : Paged = record {
      received = g.W.Sink.received c.put.new.writer;
      has_failed = g.W.Sink.has_failed c.put.new.writer;
      page = c.put.new.self;
    } in
    let front : Paged = record {
      received = g.W.Sink.received c.put-2.new.writer;
      has_failed = g.W.Sink.has_failed c.put-2.new.writer;
      page = c.put-2.new.self;
    } in
    let shown : Paged = record {
      received = g.W.Sink.received c.put-3.new.writer;
      has_failed = g.W.Sink.has_failed c.put-3.new.writer;
      page = c.put-3.new.self;
    } in
    let whole : Paged = record {
      received = g.W.Sink.received c.put-4.new.writer;
      has_failed = g.W.Sink.has_failed c.put-4.new.writer;
      page = c.put-4.new.self;
    } in
    subst (λ (text : List ℕ). Puts old whole text)
    (line_parts c.args.number c.args.head c.args.literals.now c.args.source.now c.literals_before.result.now
    c.as_slice.result.now c.cut_line-shown.result.now c.make_front.new.front.items c.literals_before.ensures
    (ap (λ (front : List ℕ). front ++ c.cut_line-shown.result.now) c.as_slice.ensures.value
    ∙ c.cut_line-shown.ensures.line)
    c.make_front.ensures.text)
    (puts old shown whole _ _
    (puts old front shown _ _ (puts old literals front _ _ c.put.ensures c.put-2.ensures) c.put-3.ensures)
    c.put-4.ensures)
