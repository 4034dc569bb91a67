-- The characters so far and those left are all.
use Rattle.std.proofs.Common.{◌≡◌, ◌+◌, ◌-◌, ◌≤◌, length}
use Rattle.machine_tapes.specs.TapReading.{counted_on, read_from}
use Rattle.machine_tapes.proofs.tap_reading.count_characters.Given as goal

abbrev pub invariant-loop-bytes : goal.invariant-loop-bytes
invariant-loop-bytes l = record {
  inside : length l.rest ≤ length l.text;
  few : l.count + length l.rest ≤ length l.text;
  read : counted_on l.count (read_from (length l.text - length l.rest) 0 l.rest) ≡ counted_on 0 (read_from 0 0 l.text);
}

abbrev pub decreases-loop-bytes : goal.decreases-loop-bytes
decreases-loop-bytes l = length l.rest
