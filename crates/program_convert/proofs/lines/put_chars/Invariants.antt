-- What was written, what isn't yet, and the characters left, make the whole.
use Rattle.std.proofs.Common.{◌≤◌, ◌++◌, drop, vec_capacity}
use Rattle.bytes_streams.specs.Page.{Sent}
use Rattle.program_convert.specs.ReelListing.{chars_text}
use Rattle.program_convert.proofs.lines.put_chars.Given as goal

abbrev pub invariant-loop-i : goal.invariant-loop-i
invariant-loop-i g l = record {
  sent : Sent (g.W.Sink.received l.initial.writer) (g.W.Sink.received l.writer)
      (l.initial.page.items ++ chars_text l.parity 0 l.tape_record)
      (l.page.items ++ chars_text l.parity l.i (drop l.i l.tape_record));
  capacity : vec_capacity l.initial.page ≤ vec_capacity l.page;
}
