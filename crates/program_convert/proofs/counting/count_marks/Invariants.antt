-- What is counted so far, and what the records left have, make the whole.
use Rattle.std.proofs.Common.{◌≡◌, ◌≤◌, length, ◌+◌}
use Rattle.machine_tapes.specs.Reel.{most_characters}
use Rattle.program_convert.specs.ReelListing.{marks_in}
use Rattle.program_convert.proofs.counting.count_marks.Given as goal

abbrev pub invariant-loop-first : goal.invariant-loop-first
invariant-loop-first l = record {
  whole : l.count + marks_in l.rest ≡ marks_in l.records;
  few : l.count + length l.rest ≤ most_characters;
}

abbrev pub decreases-loop-first : goal.decreases-loop-first
decreases-loop-first l = length l.rest
