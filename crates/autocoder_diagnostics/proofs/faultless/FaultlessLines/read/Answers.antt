-- The chains are those of the lines that are kept.
use Rattle.std.proofs.Common.{List, ◌∙◌, ap}
use Rattle.autocoder_statements.specs.declared.statement.Line.{Line}
use Rattle.autocoder_symbols.specs.Chains.{chains_of}
use Rattle.autocoder_symbols.specs.Symbols.{sites_of}
use Rattle.autocoder_diagnostics.proofs.faultless.FaultlessLines.read.Goals as goal

pub returns-clause-chains : goal.returns-clause-chains
returns-clause-chains c =
    c.in_ok-chains.ensures.ok ∙ ap (λ (lines : List Line). chains_of (sites_of lines) lines) c.lend.ensures
