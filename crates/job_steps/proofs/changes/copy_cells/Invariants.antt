-- The cells up to the place are copied, and the others are as they were.
use Rattle.std.proofs.Common.{◌≡◌, ℕ, ◌<◌, ◌≤◌, length}
use Rattle.core_1401.specs.Storage.{cell_at}
use Rattle.job_steps.proofs.changes.copy_cells.Given as goal

abbrev pub invariant-loop-place : goal.invariant-loop-place
invariant-loop-place l = record {
  size : length l.before ≡ length l.after;
  inside : (i : ℕ) → l.at ≤ i → i < l.place → cell_at l.before i ≡ cell_at l.after i;
  below : (i : ℕ) → i < l.at → cell_at l.before i ≡ cell_at l.initial.before i;
  above : (i : ℕ) → l.place ≤ i → cell_at l.before i ≡ cell_at l.initial.before i;
}
