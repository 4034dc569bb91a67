-- Those passed, and those ahead.
use Rattle.std.proofs.Common.{◌≡◌, ℕ, List, ap, sym, subst, ◌∙◌}
use Rattle.std.proofs.Common.{take}
use Rattle.std.specs.Prelude.{slice_range}
use Rattle.std.proofs.lemmas.Slice.{between_from_start}
use Rattle.machine_tapes.specs.Held.{records_in, IsWhole}
use Rattle.machine_tapes.specs.Reel.{Reel, records_of}
use Rattle.machine_tapes.proofs.ReelLemmas.{all_records, whole_all}
use Rattle.machine_tapes.proofs.reel.Reel.records.Goals as goal

pub of-requires-clause-whole : goal.of-requires-clause-whole
of-requires-clause-whole c =
    let reel = c.self.inside in
    let bytes : List ℕ = reel.bytes.items in
    let lent : slice_range bytes 0 reel.end ≡ take reel.end c.deref.result.now =
    between_from_start bytes reel.end ∙ ap (take reel.end) (sym c.deref.ensures.value) in
    subst IsWhole lent (whole_all bytes reel.head reel.end c.self.invariant.0)

pub returns : goal.returns
returns c =
    let reel = c.self.inside in
    let bytes : List ℕ = reel.bytes.items in
    let lent : take reel.end c.deref.result.now ≡ slice_range bytes 0 reel.end =
    ap (take reel.end) c.deref.ensures.value ∙ sym (between_from_start bytes reel.end) in
    c.of.ensures ∙ ap (λ (xs : List ℕ). records_in xs) lent
    ∙ all_records reel.bytes.items reel.head reel.end c.self.invariant.0
    ∙ ap (λ (r : Reel). records_of r) c.self.view_is
