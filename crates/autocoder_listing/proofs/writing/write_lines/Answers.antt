-- What was put for a line is what the listing has for it.
use Rattle.std.proofs.Common.{ℕ, List, ◌+◌, length, sym, ap, subst, arith}
use Rattle.autocoder_statements.specs.SourceLine.{lines_of}
use Rattle.autocoder_listing.specs.Heads.{written, written_for}
use Rattle.autocoder_listing.specs.Pages.{Paged, Puts}
use Rattle.autocoder_listing.proofs.PagesLemmas.{more_written, puts, puts_none}
use Rattle.autocoder_listing.proofs.writing.write_lines.Goals as goal

pub loop-line-preserved : goal.loop-line-preserved
loop-line-preserved g c =
    let at = c.loop-line in
    let before : Paged = record {
      received = g.W.Sink.received at.writer;
      has_failed = g.W.Sink.has_failed at.writer;
      page = at.pages;
    } in
    let after : Paged = record {
      received = g.W.Sink.received c.write_line.new.writer;
      has_failed = g.W.Sink.has_failed c.write_line.new.writer;
      page = c.write_line.new.pages;
    } in
    record {
      text = λ last more. at.invariant.text last
          (subst (λ (text : List ℕ). Puts before last text)
          (more_written at.number at.left.now c.heads_after-left.result.now at.literals.now
          c.literals_after-literals.result.now c.in-Some.line.now (lines_of at.rest.now)
          (lines_of c.in-Some.beyond.now) c.head_at-head.result c.head_at-head.ensures c.heads_after-left.ensures
          c.literals_after-literals.ensures c.in-Some.ensures.0)
          (puts before after last (written_for at.number c.head_at-head.result at.literals.now c.in-Some.line.now)
          (written (at.number + 1) c.heads_after-left.result.now c.literals_after-literals.result.now
          (lines_of c.in-Some.beyond.now))
          c.write_line.ensures.text more));
      front = omega (arith, at.invariant.front, c.write_line.ensures.front);
      count = omega (arith, at.invariant.count, ap length c.in-Some.ensures.0);
    }

pub returns : goal.returns
returns g c =
    let at = c.loop-line in
    let last : Paged = record {
      received = g.W.Sink.received at.writer;
      has_failed = g.W.Sink.has_failed at.writer;
      page = at.pages;
    } in
    at.invariant.text last
    (subst (λ (text : List ℕ). Puts last last text)
    (sym (ap (λ (rest : List ℕ). written at.number at.left.now at.literals.now (lines_of rest)) c.in_default.ensures))
    (puts_none last))
