-- What these cells say they always say; they are inside and covered, and their word marks are there.
use Rattle.std.proofs.Common.{◌∙◌, ◌≡◌, ◌%◌, ℕ, List, arith, ap, sym, length, set, subst, refl}
use Rattle.std.proofs.lemmas.List.{length-set}
use Rattle.core_1401.specs.Storage.{Storage}
use Rattle.cpu_1401.specs.declared.cache_entry.CacheEntry.{CacheEntry}
use Rattle.cpu_1401.specs.DecodeCache.{CacheView, AreBetween, AreCovered, AreInside, IsCurrent, entry_count}
use Rattle.fields_1401.specs.Places.{marks_of}
use Rattle.cpu_1401.proofs.DecodedLemmas.{always_say}
use Rattle.cpu_1401.proofs.DecodeCacheLemmas.{covered_cached, current_cached, between_cached, inside_cached}
use Rattle.cpu_1401.proofs.decode_cache.DecodeCache.keep.Goals as goal

pub invariant_of-t-15 : goal.invariant_of-t-15
invariant_of-t-15 c = record {
  says = always_say c.args.core.now c.args.at c.eight_cells-cells.result.codes c.eight_cells-cells.result.marks
      c.args.decoded.now
      (omega (arith, c.if-at-self.false, ap (λ (k : CacheView). k.size) c.self.view_is, c.requires.size))
      c.eight_cells-cells.ensures c.requires.says;
  ready_place = c.ready_place.ensures.there;
  ready = c.ready_place.ensures.ready;
}

pub invariant_of-self : goal.invariant_of-self
invariant_of-self c =
    let entries : List CacheEntry = c.self.inside.entries.items in
    let covered : List ℕ = c.cover_eight.new.covered in
    let new : CacheEntry = record {
      codes = c.eight_cells-cells.result.codes;
      decoded = c.args.decoded.now;
      at = c.args.at;
      ready_at = c.ready_place.result;
      marks = c.eight_cells-cells.result.marks;
      says = c.t15-1.given.0;
      ready_place = c.t15-1.given.1.0;
      ready = c.t15-1.given.1.1.0;
    } in
    subst (λ (k : ℕ). (length (set entries k new) ≡ entry_count) × AreCovered (set entries k new) covered
    × AreInside (set entries k new) c.self.inside.size × AreBetween (set entries k new) c.min-self-inside.result c.max-self-inside.result)
    (sym c.entry_of.ensures) (
      length-set entries (c.args.at % entry_count) new ∙ c.self.invariant.0,
      covered_cached entries c.self.inside.covered covered c.args.at new refl c.self.invariant.1
          c.cover_eight.ensures.there c.cover_eight.ensures.more,
      inside_cached entries c.self.inside.size c.args.at new refl
          (c.if-at-self.false, c.ready_place.ensures.places) c.self.invariant.2,
      between_cached entries c.self.inside.first c.self.inside.last c.min-self-inside.result c.max-self-inside.result
          c.args.at new refl c.min-self-inside.ensures c.max-self-inside.ensures c.self.invariant.3,
    )

pub returns-clause-current : goal.returns-clause-current
returns-clause-current c =
    let entries : List CacheEntry = c.self.inside.entries.items in
    let s : Storage = c.args.core.now in
    let new : CacheEntry = record {
      codes = c.eight_cells-cells.result.codes;
      decoded = c.args.decoded.now;
      at = c.args.at;
      ready_at = c.ready_place.result;
      marks = c.eight_cells-cells.result.marks;
      says = c.t15-1.given.0;
      ready_place = c.t15-1.given.1.0;
      ready = c.t15-1.given.1.1.0;
    } in
    subst (λ (k : ℕ). IsCurrent (set entries k new) (marks_of s)) (sym c.entry_of.ensures)
    (current_cached entries s c.args.at new refl
    (subst (λ (k : CacheView). IsCurrent k.entries (marks_of s)) (sym c.self.view_is) c.requires.current)
    c.eight_cells-cells.ensures)
