-- The page is empty at first, and its rest is written at last.
use Rattle.std.proofs.lemmas.Result.{on_ok_weaker, on_err_weaker}
use Rattle.autocoder_listing.specs.Pages.{Paged}
use Rattle.autocoder_listing.specs.Writing.{text_for}
use Rattle.autocoder_listing.proofs.PagesLemmas.{ended_part, ended_whole}
use Rattle.autocoder_listing.proofs.writing.write_listing.Goals as goal

pub returns-clause-ok : goal.returns-clause-ok
returns-clause-ok g c =
    let old : Paged = record {
      received = g.W.Sink.received c.args.writer.now;
      has_failed = g.W.Sink.has_failed c.args.writer.now;
      page = c.args.ready.page;
    } in
    let between : Paged = record {
      received = g.W.Sink.received c.write_lines.new.writer;
      has_failed = g.W.Sink.has_failed c.write_lines.new.writer;
      page = c.write_lines.new.pages;
    } in
    on_ok_weaker c.end.result
    (λ ended. ended_whole old between (g.W.Sink.received c.end.new.writer) (text_for c.args.source.now c.args.ready)
    c.requires.0.0 c.write_lines.ensures ended)
    c.end.ensures.ok

pub returns-clause-part : goal.returns-clause-part
returns-clause-part g c =
    let old : Paged = record {
      received = g.W.Sink.received c.args.writer.now;
      has_failed = g.W.Sink.has_failed c.args.writer.now;
      page = c.args.ready.page;
    } in
    let between : Paged = record {
      received = g.W.Sink.received c.write_lines.new.writer;
      has_failed = g.W.Sink.has_failed c.write_lines.new.writer;
      page = c.write_lines.new.pages;
    } in
    on_err_weaker c.end.result
    (λ part. ended_part old between (g.W.Sink.received c.end.new.writer) (text_for c.args.source.now c.args.ready)
    c.requires.0.0 c.write_lines.ensures part c.end.ensures.stays)
    c.end.ensures.part
