-- The records so far and those left are all.
use Rattle.std.proofs.Common.{◌≡◌, ◌-◌, ◌≤◌, [], length, reverse}
use Rattle.machine_tapes.specs.TapReading.{read_from}
use Rattle.machine_tapes.proofs.TapReadLemmas.{after_all}
use Rattle.machine_tapes.proofs.tap_reading.wind.Given as goal

abbrev pub invariant-loop-bytes : goal.invariant-loop-bytes
invariant-loop-bytes l = record {
  inside : length l.rest ≤ length l.text;
  read :
      after_all (reverse l.reel.passed) (read_from (length l.text - length l.rest) 0 l.rest) ≡ read_from 0 0 l.text;
  ahead : l.reel.ahead ≡ [];
  capacity : l.reel.capacity ≡ l.fn.reel.capacity;
}

abbrev pub decreases-loop-bytes : goal.decreases-loop-bytes
decreases-loop-bytes l = length l.rest
