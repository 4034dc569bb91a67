-- These lines are carried out, with these replies, and these are left.
use Rattle.std.proofs.Common.{◌≡◌}
use Rattle.std.specs.Prelude.{option_copied}
use mathlib.Core.List.{IsPrefix}
use Rattle.serving_page.specs.ManyLines.{LinesDone, line_feed, lines_of}
use Rattle.serving_page.specs.Pieces.{pieces_in}
use Rattle.serving_page.proofs.ManyLinesLemmas.{left_of}
use Rattle.serving_page.proofs.many_lines.answer_lines.Given as goal

abbrev pub invariant-loop-rest : goal.invariant-loop-rest
invariant-loop-rest g l = record {
  done : LinesDone g.J.RoomId.size g.G.Gate.says l.fn.seat (lines_of l.body) l.text.items l.seat
      (pieces_in line_feed (option_copied l.rest));
  number : l.seat.number ≡ l.fn.seat.number;
  grows : IsPrefix l.fn.seat.list l.seat.list;
}

abbrev pub decreases-loop-rest : goal.decreases-loop-rest
decreases-loop-rest g l = left_of (option_copied l.rest)
