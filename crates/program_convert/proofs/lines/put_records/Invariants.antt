-- What was written, what isn't yet, and the lines of the records left, make the whole.
use Rattle.std.proofs.Common.{◌≤◌, ◌+◌, ◌++◌, length, vec_capacity}
use Rattle.bytes_streams.specs.Page.{Sent}
use Rattle.machine_tapes.specs.Reel.{most_characters}
use Rattle.program_convert.specs.ReelListing.{lines_from}
use Rattle.program_convert.proofs.lines.put_records.Given as goal

abbrev pub invariant-loop-first : goal.invariant-loop-first
invariant-loop-first g l = record {
  sent : Sent (g.W.Sink.received l.initial.writer) (g.W.Sink.received l.writer)
      (l.initial.page.items ++ lines_from l.parity 1 l.records)
      (l.page.items ++ lines_from l.parity l.number l.rest);
  few : l.number + length l.rest ≤ most_characters + 1;
  capacity : vec_capacity l.initial.page ≤ vec_capacity l.page;
}

abbrev pub decreases-loop-first : goal.decreases-loop-first
decreases-loop-first g l = length l.rest
