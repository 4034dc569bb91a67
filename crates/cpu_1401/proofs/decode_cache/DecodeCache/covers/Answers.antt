-- If a place isn't covered nothing is cached.
use Rattle.std.proofs.Common.{◌≡◌, ◌∙◌, ℕ, List, false, ap, sym, arith, subst}
use Rattle.core_1401.specs.PlaceSet.{has_place}
use Rattle.cpu_1401.specs.DecodeCache.{CacheView, IsApart}
use Rattle.cpu_1401.proofs.DecodeCacheLemmas.{apart_uncovered}
use Rattle.cpu_1401.proofs.decode_cache.DecodeCache.covers.Goals as goal

pub returns : goal.returns
returns c =
    let at : ℕ = c.args.at in
    let covered : List ℕ = c.self.inside.covered in
    subst (λ (k : CacheView). c.has.result ≡ false → IsApart k.entries at at) c.self.view_is
    (λ none. apart_uncovered c.self.inside.entries.items covered at at c.self.invariant.1 (omega arith)
    (λ q low high. ap (has_place covered) (omega (arith, low, high)) ∙ sym c.has.ensures ∙ none))
