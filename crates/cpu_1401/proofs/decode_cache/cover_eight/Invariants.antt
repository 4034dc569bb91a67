-- Those so far are there, and none is gone.
use Rattle.std.proofs.Common.{◌≡◌, ℕ, ◌+◌, ◌<◌, true}
use Rattle.core_1401.specs.PlaceSet.{has_place}
use Rattle.cpu_1401.proofs.decode_cache.cover_eight.Given as goal

abbrev pub invariant-loop-i : goal.invariant-loop-i
invariant-loop-i l = record {
  there : (i : ℕ) → i < l.i → has_place l.covered (l.at + i) ≡ true;
  more : (place : ℕ) → has_place l.initial.covered place ≡ true → has_place l.covered place ≡ true;
}
