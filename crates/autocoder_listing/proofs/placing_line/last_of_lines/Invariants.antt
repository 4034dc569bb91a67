-- What is found so far, or else in the lines that are left, is what is found in all.
use Rattle.std.proofs.Common.{◌≡◌, ◌+◌, None, drop}
use Rattle.autocoder_placing.specs.View.{places_of}
use Rattle.autocoder_listing.specs.Rows.{last_at, rows_from}
use Rattle.autocoder_listing.proofs.placing_line.last_of_lines.Given as goal

abbrev pub invariant-loop-i : goal.invariant-loop-i
invariant-loop-i l =
    last_at l.at l.characters l.found
    (rows_from (places_of l.all) (places_of l.so_far) (l.i + 1) (drop l.i l.lines))
    ≡ last_at l.at l.characters None (rows_from (places_of l.all) (places_of l.initial.so_far) 1 l.lines)
