-- An entry with the place of ready addresses has that place, so it keeps the instruction there, whose addresses are
-- ready and those of places if it needs that.
use Rattle.std.proofs.Common.{◌≡◌, ◌≢◌, ◌-◌, ◌^◌, Bor, List, Option, None, Some, IfSome, length, ap, sym, ◌∙◌, arith}
use Rattle.std.proofs.Common.{subst}
use Rattle.cpu_1401.specs.declared.cache_entry.CacheEntry.{CacheEntry}
use Rattle.cpu_1401.specs.declared.decoded.Decoded.{Decoded}
use Rattle.cpu_1401.specs.DecodeCache.{CacheView, IsCurrent, IsCached}
use Rattle.cpu_1401.specs.NeededPlaces.{HasPlaces}
use Rattle.fields_1401.specs.Places.{marks_of}
use Rattle.cpu_1401.proofs.DecodeCacheLemmas.{found}
use Rattle.cpu_1401.proofs.decode_cache.DecodeCache.find_ready.Goals as goal

pub said_there-requires-clause-inside : goal.said_there-requires-clause-inside
said_there-requires-clause-inside c =
    let entries : List CacheEntry = c.self.inside.entries.items in
    let entry : CacheEntry = c.index-entry.result.now in
    let same : entry.ready_at ≡ c.args.at = c.if-entry-at.false in
    let some : entry.ready_at ≢ 2 ^ 16 - 1 = λ none. absurd (omega (arith, none, same, c.requires.place)) in
    let cache : IsCached entries c.args.at entry =
    found entries c.args.at c.entry_of.result entry c.self.invariant.0 c.requires.place c.entry_of.ensures
    c.index-entry.ensures (sym (entry.ready_place some) ∙ same) in
    omega (arith, (c.self.invariant.2 c.args.at entry cache).0, ap (λ (k : CacheView). k.size) c.self.view_is, c.requires.size)

pub said_there-requires-clause-marks : goal.said_there-requires-clause-marks
said_there-requires-clause-marks c =
    let entries : List CacheEntry = c.self.inside.entries.items in
    let entry : CacheEntry = c.index-entry.result.now in
    let same : entry.ready_at ≡ c.args.at = c.if-entry-at.false in
    let some : entry.ready_at ≢ 2 ^ 16 - 1 = λ none. absurd (omega (arith, none, same, c.requires.place)) in
    let cache : IsCached entries c.args.at entry =
    found entries c.args.at c.entry_of.result entry c.self.invariant.0 c.requires.place c.entry_of.ensures
    c.index-entry.ensures (sym (entry.ready_place some) ∙ same) in
    let current : IsCurrent entries (marks_of c.args.core.now) =
    subst (λ (k : CacheView). IsCurrent k.entries (marks_of c.args.core.now)) (sym c.self.view_is) c.requires.current in
    current c.args.at entry cache

pub returns-clause-places : goal.returns-clause-places
returns-clause-places c = by c.said_there.result c.said_there.ensures.own where
  entry : CacheEntry
  entry = c.index-entry.result.now

  has : HasPlaces entry.decoded.operation entry.decoded.a.value entry.decoded.b.value (length c.args.core.now)
  has needs =
      let same : entry.ready_at ≡ c.args.at = c.if-entry-at.false in
      let some : entry.ready_at ≢ 2 ^ 16 - 1 = λ none. absurd (omega (arith, none, same, c.requires.place)) in
      let cache : IsCached c.self.inside.entries.items c.args.at entry =
      found c.self.inside.entries.items c.args.at c.entry_of.result entry c.self.invariant.0 c.requires.place
      c.entry_of.ensures c.index-entry.ensures (sym (entry.ready_place some) ∙ same) in
      let inside = (c.self.invariant.2 c.args.at entry cache).1 some needs in
      let size = ap (λ (k : CacheView). k.size) c.self.view_is in
      (omega (arith, inside.0, size, c.requires.size), omega (arith, inside.1, size, c.requires.size))

  by : (said : Option (Bor Decoded)) → IfSome said (λ decoded. decoded.now ≡ entry.decoded)
      → IfSome said (λ decoded.
      HasPlaces decoded.now.operation decoded.now.a.value decoded.now.b.value (length c.args.core.now))
  by None own = tt
  by (Some decoded) own =
      subst (λ (d : Decoded). HasPlaces d.operation d.a.value d.b.value (length c.args.core.now)) (sym own) has
