-- What is counted so far, and what the records left have, make the whole.
use Rattle.std.proofs.Common.{◌≡◌, length, ◌+◌}
use Rattle.machine_tapes.specs.Reel.{characters_in}
use Rattle.program_convert.proofs.counting.count_characters.Given as goal

abbrev pub invariant-loop-first : goal.invariant-loop-first
invariant-loop-first l = record {
  whole : l.count + characters_in l.rest ≡ characters_in l.records;
}

abbrev pub decreases-loop-first : goal.decreases-loop-first
decreases-loop-first l = length l.rest
