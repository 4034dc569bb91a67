-- If no place is covered nothing is cached.
use Rattle.std.proofs.Common.{◌≡◌, ◌+◌, ◌-◌, ◌≤◌, ◌<◌, ◌∙◌, ℕ, List, ap, sym, arith, subst, if◌then◌else◌}
use Rattle.std.proofs.lemmas.Bool.{lt-ltb, le-ltb}
use Rattle.core_1401.specs.PlaceSet.{HasNone}
use Rattle.cpu_1401.specs.DecodeCache.{CacheView, IsApart, lowest_written}
use Rattle.cpu_1401.proofs.DecodeCacheLemmas.{apart_uncovered}
use Rattle.cpu_1401.proofs.decode_cache.DecodeCache.forget_written.Goals.{then-below-units, else-below-units}
use Rattle.cpu_1401.proofs.decode_cache.DecodeCache.forget_written.Goals as goal

pub returns-else-not-has_none-clause-apart : goal.returns-else-not-has_none-clause-apart
returns-else-not-has_none-clause-apart c =
    let units : ℕ = c.args.units in
    let below : ℕ = c.args.below in
    let n : ℕ = c.if-below-units.n in
    let covered : List ℕ = c.self.inside.covered in
    let is : units + 1 - n ≡ lowest_written units below =
    elim c.if-below-units.branch [
      | then-below-units w ↦ omega (arith, w.n-is, w.if-below-units.true)
          ∙ sym (ap (λ b. if b then below + 1 else 0) (lt-ltb below units w.if-below-units.true))
      | else-below-units w ↦ omega (arith, w.n-is)
          ∙ sym (ap (λ b. if b then below + 1 else 0) (le-ltb below units w.if-below-units.false))
    ] in
    let some : (0 < n) × (n ≤ units + 1) =
    elim c.if-below-units.branch [
      | then-below-units w ↦ (omega (arith, w.n-is, w.if-below-units.true), omega (arith, w.n-is))
      | else-below-units w ↦ (omega (arith, w.n-is), omega (arith, w.n-is))
    ] in
    let none : HasNone covered units n = c.has_none.ensures.0 c.if-not-has_none.false in
    let apart : IsApart c.self.inside.entries.items (units + 1 - n) units =
    apart_uncovered c.self.inside.entries.items covered (units + 1 - n) units c.self.invariant.1 (omega (arith, some.0))
    (λ q from to. none q to (omega (arith, from, some.0))) in
    subst (λ (k : CacheView). IsApart k.entries (lowest_written units below) units) c.self.view_is
    (subst (λ (low : ℕ). IsApart c.self.inside.entries.items low units) is apart)

pub returns-then-not-has_none-clause-apart : goal.returns-then-not-has_none-clause-apart
returns-then-not-has_none-clause-apart c =
    let units : ℕ = c.args.units in
    let below : ℕ = c.args.below in
    let n : ℕ = c.if-below-units.n in
    let is : units + 1 - n ≡ lowest_written units below =
    elim c.if-below-units.branch [
      | then-below-units w ↦ omega (arith, w.n-is, w.if-below-units.true)
          ∙ sym (ap (λ b. if b then below + 1 else 0) (lt-ltb below units w.if-below-units.true))
      | else-below-units w ↦ omega (arith, w.n-is)
          ∙ sym (ap (λ b. if b then below + 1 else 0) (le-ltb below units w.if-below-units.false))
    ] in
    subst (λ (low : ℕ). IsApart c.forget.new.self.entries low units) is c.forget.ensures.apart
