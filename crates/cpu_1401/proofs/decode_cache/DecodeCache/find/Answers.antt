-- An entry with the place keeps the instruction there; it is inside, and its word marks are current.
use Rattle.std.proofs.Common.{List, ap, sym, arith, subst}
use Rattle.cpu_1401.specs.declared.cache_entry.CacheEntry.{CacheEntry}
use Rattle.cpu_1401.specs.DecodeCache.{CacheView, IsCurrent, IsCached}
use Rattle.fields_1401.specs.Places.{marks_of}
use Rattle.cpu_1401.proofs.DecodeCacheLemmas.{found}
use Rattle.cpu_1401.proofs.decode_cache.DecodeCache.find.Goals as goal

pub said_there-requires-clause-inside : goal.said_there-requires-clause-inside
said_there-requires-clause-inside c =
    let entries : List CacheEntry = c.self.inside.entries.items in
    let entry : CacheEntry = c.index-entry.result.now in
    let cache : IsCached entries c.args.at entry =
    found entries c.args.at c.entry_of.result entry c.self.invariant.0 c.requires.place c.entry_of.ensures
    c.index-entry.ensures c.if-entry-at.false in
    omega (arith, (c.self.invariant.2 c.args.at entry cache).0, ap (λ (k : CacheView). k.size) c.self.view_is, c.requires.size)

pub said_there-requires-clause-marks : goal.said_there-requires-clause-marks
said_there-requires-clause-marks c =
    let entries : List CacheEntry = c.self.inside.entries.items in
    let entry : CacheEntry = c.index-entry.result.now in
    let cache : IsCached entries c.args.at entry =
    found entries c.args.at c.entry_of.result entry c.self.invariant.0 c.requires.place c.entry_of.ensures
    c.index-entry.ensures c.if-entry-at.false in
    let current : IsCurrent entries (marks_of c.args.core.now) =
    subst (λ (k : CacheView). IsCurrent k.entries (marks_of c.args.core.now)) (sym c.self.view_is) c.requires.current in
    current c.args.at entry cache
