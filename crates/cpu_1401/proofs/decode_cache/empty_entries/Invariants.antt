-- What is cached was kept before, and isn't at a place so far.
use Rattle.std.proofs.Common.{◌≡◌, ◌⊎◌, ℕ, ◌<◌, ◌≤◌, length}
use Rattle.cpu_1401.specs.declared.cache_entry.CacheEntry.{CacheEntry}
use Rattle.cpu_1401.specs.DecodeCache.{IsCached, IsPart}
use Rattle.cpu_1401.proofs.decode_cache.empty_entries.Given as goal

abbrev pub invariant-loop-place : goal.invariant-loop-place
invariant-loop-place l = record {
  count : length l.entries ≡ length l.initial.entries;
  part : IsPart l.initial.entries l.entries;
  beside : (at : ℕ) → (entry : CacheEntry) → IsCached l.entries at entry → (at < l.from) ⊎ (l.place ≤ at);
}
