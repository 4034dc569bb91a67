-- The cells are those of the entry, which always say so.
use Rattle.std.proofs.Common.{◌+◌, ◌≤◌, ℕ, List, arith, length, rules, subst, sym}
use Rattle.core_1401.specs.EightCells.{AreEightCells}
use Rattle.machine_tables.specs.declared.features.Features.{Features}
use Rattle.cpu_1401.specs.DecodedFitted.{IsSaying, SaysFitted}
use Rattle.cpu_1401.specs.declared.fitted_entry.FittedEntry.{FittedEntry}
use Rattle.cpu_1401.proofs.DecodedFittedLemmas.{entry_says}
use Rattle.cpu_1401.proofs.fitted_cache.FittedCache.find.Goals as goal

pub returns-clause-says : goal.returns-clause-says
returns-clause-says c =
    let entries : List FittedEntry = c.self.inside.entries.items in
    let features : Features = c.self.inside.features in
    let entry : FittedEntry = c.index-entry.result.now in
    let inside : c.args.at + 8 ≤ length c.args.core.now = search rules in
    let says : IsSaying features entry =
    subst (IsSaying features) (sym c.index-entry.ensures)
    (entry_says features entries c.entry_of.result entry (omega (arith, c.entry_of.ensures, c.self.invariant.0))
    c.self.invariant.1) in
    let are : AreEightCells c.args.core.now c.args.at entry.codes entry.marks =
    subst (λ (codes : ℕ). AreEightCells c.args.core.now c.args.at codes entry.marks) c.if-cells-entry.false
    (subst (λ (marks : ℕ). AreEightCells c.args.core.now c.args.at c.eight_cells-cells.result.codes marks)
    c.if-cells-entry-2.false c.eight_cells-cells.ensures) in
    subst (λ (held : Features). SaysFitted c.args.core.now c.args.at held entry.decoded) c.self.view_is
    (says c.args.core.now c.args.at inside are)
