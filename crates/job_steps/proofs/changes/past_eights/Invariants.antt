-- The places so far are equal.
use Rattle.std.proofs.Common.{◌≡◌, ℕ, ◌-◌, ◌<◌, ◌≤◌, false, length}
use Rattle.core_1401.specs.Storage.{cell_at}
use Rattle.job_steps.specs.Changes.{is_changed}
use Rattle.job_steps.proofs.changes.past_eights.Given as goal

abbrev pub invariant-loop-at : goal.invariant-loop-at
invariant-loop-at l = record {
  least : l.from ≤ l.at;
  most : l.at ≤ length l.after;
  same : (i : ℕ) → l.from ≤ i → i < l.at → is_changed (cell_at l.before i) (cell_at l.after i) ≡ false;
}

abbrev pub decreases-loop-at : goal.decreases-loop-at
decreases-loop-at l = length l.after - l.at
