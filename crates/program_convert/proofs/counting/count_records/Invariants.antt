-- The records so far and those left are all.
use Rattle.std.proofs.Common.{◌≡◌, ◌≤◌, length, ◌+◌}
use Rattle.machine_tapes.specs.Reel.{most_characters}
use Rattle.program_convert.proofs.counting.count_records.Given as goal

abbrev pub invariant-loop-beyond : goal.invariant-loop-beyond
invariant-loop-beyond l = record {
  whole : l.count + length l.rest ≡ length l.records;
  few : length l.records ≤ most_characters;
}

abbrev pub decreases-loop-beyond : goal.decreases-loop-beyond
decreases-loop-beyond l = length l.rest
