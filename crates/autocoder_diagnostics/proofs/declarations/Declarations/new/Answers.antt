-- The two maps have where the lines up to END declare symbols, and where those after it do.
use Rattle.std.proofs.Common.{ap, ◌∙◌}
use Rattle.std.specs.Option.{option_or}
use Rattle.indexmap.specs.IndexMap.{get}
use Rattle.autocoder_symbols.specs.Known.{Declared}
use Rattle.autocoder_symbols.specs.Symbols.{Sites, same_label, sites_anywhere, sites_of}
use Rattle.autocoder_symbols.proofs.SymbolsLemmas.{declared_anywhere, same_sites}
use Rattle.autocoder_diagnostics.proofs.declarations.Declarations.new.Goals as goal

pub returns-clause-anywhere : goal.returns-clause-anywhere
returns-clause-anywhere c =
    same_sites _ (sites_anywhere c.args.lines.now) (λ label.
    ap (λ (sites : Sites). option_or (sites label) (get same_label c.in_ok-beyond_end.beyond_end label))
    (ap (λ (of : Declared). of.sites) c.in_ok-symbols.ensures.ok)
    ∙ ap (option_or (sites_of c.args.lines.now label)) (c.in_ok-beyond_end.ensures.lines label)
    ∙ declared_anywhere 1 c.args.lines.now label)
