-- The chains are those in the language of the lines, and lines without a fault have no others.
use Rattle.std.proofs.Common.{◌≡◌, None, sym, ap, ◌∙◌}
use Rattle.autocoder_symbols.specs.Known.{Declared}
use Rattle.autocoder_diagnostics.specs.FirstFault.{first_fault}
use Rattle.autocoder_diagnostics.proofs.ChainsLemmas.{chains_alike}
use Rattle.autocoder_diagnostics.proofs.faultless.faultless_chains.Goals as goal

pub returns-clause-ok : goal.returns-clause-ok
returns-clause-ok c =
    let none : first_fault c.args.language c.args.lines.now ≡ None = sym c.scan.ensures.fault ∙ c.in_default.is in
    ap (λ (declared : Declared). declared.chains) c.in_ok-symbols.ensures.ok
    ∙ chains_alike c.args.language c.args.lines.now none
