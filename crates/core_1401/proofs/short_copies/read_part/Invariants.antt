-- The characters so far are read.
use Rattle.std.proofs.Common.{◌≡◌, ℕ, ◌+◌, ◌<◌, length, slice_index_or}
use Rattle.core_1401.proofs.short_copies.read_part.Given as goal

abbrev pub invariant-loop-i : goal.invariant-loop-i
invariant-loop-i l = record {
  count : length l.part ≡ length l.fn.part;
  read : (j : ℕ) → j < l.i → slice_index_or l.part j 0 ≡ slice_index_or l.chars (l.from + j) 0;
}
