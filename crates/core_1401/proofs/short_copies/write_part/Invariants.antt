-- The characters so far are written, and the others are as they were.
use Rattle.std.proofs.Common.{◌≡◌, ℕ, ◌+◌, ◌<◌, ◌≤◌, length, slice_index_or}
use Rattle.core_1401.proofs.short_copies.write_part.Given as goal

abbrev pub invariant-loop-i : goal.invariant-loop-i
invariant-loop-i l = record {
  count : length l.chars ≡ length l.fn.chars;
  written : (j : ℕ) → j < l.i → slice_index_or l.chars (l.to + j) 0 ≡ slice_index_or l.part j 0;
  below : (j : ℕ) → j < l.to → slice_index_or l.chars j 0 ≡ slice_index_or l.fn.chars j 0;
  above : (j : ℕ) → l.to + l.i ≤ j → slice_index_or l.chars j 0 ≡ slice_index_or l.fn.chars j 0;
}
