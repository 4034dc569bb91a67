-- If no place is covered nothing is cached; 64 places are all that were written.
use Rattle.std.proofs.Common.{◌≡◌, ◌+◌, ◌≤◌, ◌<◌, ℕ, List, ap, sym, arith, subst, inl, inr, if◌then◌else◌}
use Rattle.std.proofs.lemmas.Bool.{cases_lt, lt-ltb, le-ltb}
use Rattle.core_1401.specs.PlaceSet.{HasNone}
use Rattle.cpu_1401.specs.declared.cache_entry.CacheEntry.{CacheEntry}
use Rattle.cpu_1401.specs.DecodeCache.{CacheView, IsApart, lowest_written}
use Rattle.cpu_1401.proofs.DecodeCacheLemmas.{apart_uncovered}
use Rattle.cpu_1401.proofs.decode_cache.DecodeCache.forget_down.Goals as goal

pub returns-else-not-has_none_near-clause-apart : goal.returns-else-not-has_none_near-clause-apart
returns-else-not-has_none_near-clause-apart c =
    let units : ℕ = c.args.units in
    let below : ℕ = c.args.below in
    let entries : List CacheEntry = c.self.inside.entries.items in
    let covered : List ℕ = c.self.inside.covered in
    let near = c.if-beside_units-ge-NEAR_PLACES.false in
    let none : HasNone covered units 64 = c.has_none_near.ensures c.if-not-has_none_near.false in
    let apart : (low : ℕ) → lowest_written units below ≡ low → low ≤ units → units < low + 64
    → IsApart entries (lowest_written units below) units =
    λ low is order most. subst (λ (n : ℕ). IsApart entries n units) (sym is)
    (apart_uncovered entries covered low units c.self.invariant.1 order
    (λ q from to. none q to (omega (arith, from, most)))) in
    subst (λ (k : CacheView). IsApart k.entries (lowest_written units below) units) c.self.view_is
    (elim (cases_lt below units) [
      | inl under ↦ apart (below + 1) (ap (λ b. if b then below + 1 else 0) (lt-ltb below units under))
          (omega (arith, under)) (omega (arith, under, near))
      | inr over ↦ apart 0 (ap (λ b. if b then below + 1 else 0) (le-ltb below units over))
          (omega arith) (omega (arith, over, near))
    ])
