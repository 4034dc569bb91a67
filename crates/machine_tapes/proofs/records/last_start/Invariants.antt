-- All bytes after this place go on.
use Rattle.std.proofs.Common.{◌≡◌, ◌+◌, ◌-◌, ◌<◌, length, drop}
use Rattle.std.specs.List.{prefix_len}
use Rattle.machine_tapes.specs.Held.{goes_on}
use Rattle.machine_tapes.proofs.records.last_start.Given as goal

abbrev pub invariant-loop-at : goal.invariant-loop-at
invariant-loop-at l = record {
  inside : l.at < length l.bytes;
  others : prefix_len goes_on (drop (l.at + 1) l.bytes) ≡ length l.bytes - (l.at + 1);
}

abbrev pub decreases-loop-at : goal.decreases-loop-at
decreases-loop-at l = l.at
