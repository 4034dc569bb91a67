-- What these cells say they always say, and the other entries stay.
use Rattle.std.proofs.Common.{◌+◌, ◌≤◌, ◌∙◌, List, length, rules, subst, sym}
use Rattle.std.proofs.lemmas.List.{length-set}
use Rattle.machine_tables.specs.declared.features.Features.{Features}
use Rattle.cpu_1401.specs.DecodedFitted.{IsSaying, SaysFitted}
use Rattle.cpu_1401.specs.declared.fitted_entry.FittedEntry.{FittedEntry}
use Rattle.cpu_1401.proofs.DecodedFittedLemmas.{always_say_fitted, one_more_says}
use Rattle.cpu_1401.proofs.fitted_cache.FittedCache.keep.Goals as goal

pub invariant_of-self : goal.invariant_of-self
invariant_of-self c =
    let entries : List FittedEntry = c.self.inside.entries.items in
    let features : Features = c.self.inside.features in
    let inside : c.args.at + 8 ≤ length c.args.core.now = search rules in
    let new : FittedEntry = record {
      codes = c.eight_cells-cells.result.codes;
      marks = c.eight_cells-cells.result.marks;
      decoded = c.args.decoded.now;
      own = c.t9-1.given.0;
    } in
    let says : IsSaying features new =
    always_say_fitted c.args.core.now c.args.at c.eight_cells-cells.result.codes c.eight_cells-cells.result.marks features
    c.args.decoded.now inside c.eight_cells-cells.ensures
    (subst (λ (held : Features). SaysFitted c.args.core.now c.args.at held c.args.decoded.now) (sym c.self.view_is)
    c.requires.says) in (
      length-set entries c.entry_of.result new ∙ c.self.invariant.0,
      one_more_says features entries c.entry_of.result new says c.self.invariant.1,
    )
