-- As long as none differs, the characters so far are equal.
use Rattle.std.proofs.Common.{◌≡◌, ℕ, ◌+◌, ◌<◌, ◌≤◌, false, slice_index_or}
use Rattle.job_steps.proofs.blocks.are_same_chars.Given as goal

abbrev pub invariant-loop-i : goal.invariant-loop-i
invariant-loop-i l =
    l.differ ≡ false → (i : ℕ) → l.at ≤ i → i < l.at + l.i
    → slice_index_or l.before i 0 ≡ slice_index_or l.after i 0
