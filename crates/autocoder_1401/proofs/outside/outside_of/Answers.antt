-- The lines are those whose chains of EQUs were read.
use Rattle.std.proofs.Common.{List, sym, ap, ◌∙◌}
use Rattle.autocoder_statements.specs.declared.statement.Line.{Line}
use Rattle.autocoder_symbols.specs.Chains.{chains_of}
use Rattle.autocoder_symbols.specs.Symbols.{sites_of}
use Rattle.autocoder_1401.proofs.outside.outside_of.Goals as goal

pub outside_in-requires : goal.outside_in-requires
outside_in-requires c = record {
  chains = c.in_ok-read.ensures.chains
      ∙ ap (λ (lines : List Line). chains_of (sites_of lines) lines) (sym c.lend-lines.ensures);
}
