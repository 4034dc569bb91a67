-- What was written, what isn't written yet, and the lines of the segments that are left, are those of all segments.
use Rattle.std.proofs.Common.{◌≤◌, length, vec_capacity}
use Rattle.autocoder_deck.specs.Stretches.{placed_cells, IsReady}
use Rattle.bytes_streams.specs.Page.{most_in_page, Sent}
use Rattle.autocoder_deck.specs.Writing.{listed}
use Rattle.autocoder_deck.proofs.writing.write_segments.Given as goal

abbrev pub invariant-loop-segment : goal.invariant-loop-segment
invariant-loop-segment g l = record {
  sent : Sent (g.W.Sink.received l.initial.writer) (g.W.Sink.received l.writer)
      (listed l.initial.text l.initial.builder (placed_cells l.image.segments))
      (listed l.text l.builder (placed_cells l.rest.segments));
  ready : IsReady l.builder;
  room : most_in_page ≤ vec_capacity l.text;
}

abbrev pub decreases-loop-segment : goal.decreases-loop-segment
decreases-loop-segment g l = length l.rest.segments
