-- The map has where the lines declare each symbol, so the chains are theirs.
use Rattle.std.proofs.Common.{◌≡◌, ◌∙◌, ap}
use Rattle.indexmap.specs.IndexMap.{get}
use Rattle.autocoder_symbols.specs.Chains.{Chains, chains_in}
use Rattle.autocoder_symbols.specs.Known.{Declared}
use Rattle.autocoder_symbols.specs.Symbols.{Sites, same_label, sites_of}
use Rattle.autocoder_symbols.proofs.SymbolsLemmas.{same_sites}
use Rattle.autocoder_symbols.proofs.known.declared.Goals as goal

pub returns-clause-ok : goal.returns-clause-ok
returns-clause-ok c =
    let lines = c.args.lines.now in
    let sites = get same_label c.in_ok-sites.sites in
    let same : sites ≡ sites_of lines = same_sites sites (sites_of lines) c.in_ok-sites.ensures.lines in
    let of : Sites → Chains → Declared =
    λ (sites : Sites) (chains : Chains). record { language = c.args.language; sites = sites; chains = chains } in
    ap (of sites) c.in_ok-chains.ensures.ok
    ∙ ap (λ (sites : Sites). of sites (chains_in c.args.language sites lines)) same
