-- What was put, and the lines that are left, are the whole listing.
use Rattle.std.proofs.Common.{◌≡◌, ◌+◌, ◌≤◌, length, vec_capacity}
use Rattle.autocoder_statements.specs.SourceLine.{lines_of}
use Rattle.autocoder_listing.specs.Heads.{written}
use Rattle.autocoder_listing.specs.Writing.{most_in_front}
use Rattle.autocoder_listing.proofs.PagesLemmas.{PutsBut}
use Rattle.autocoder_listing.proofs.writing.write_lines.Given as goal

abbrev pub invariant-loop-line : goal.invariant-loop-line
invariant-loop-line g l = record {
  text : PutsBut
      (record {
        received = g.W.Sink.received l.initial.writer;
        has_failed = g.W.Sink.has_failed l.initial.writer;
        page = l.initial.pages;
      })
      (record {
        received = g.W.Sink.received l.writer;
        has_failed = g.W.Sink.has_failed l.writer;
        page = l.pages;
      })
      (written l.number l.left l.literals (lines_of l.rest))
      (written 1 l.heads.heads.items l.heads.literals.items (lines_of l.source));
  front : most_in_front ≤ vec_capacity l.front;
  count : l.number + length (lines_of l.rest) ≡ 1 + length (lines_of l.source);
}

abbrev pub decreases-loop-line : goal.decreases-loop-line
decreases-loop-line g l = length l.rest
