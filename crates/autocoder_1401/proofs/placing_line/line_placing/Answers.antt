-- The lines are those of the source.
use Rattle.std.proofs.Common.{List, IfSome, ◌∙◌, sym, ap, subst}
use Rattle.autocoder_statements.specs.declared.statement.Line.{Line}
use Rattle.autocoder_symbols.specs.Chains.{chains_of}
use Rattle.autocoder_symbols.specs.Symbols.{sites_of}
use Rattle.autocoder_listing.specs.Listing.{characters_text}
use Rattle.autocoder_listing.specs.Rows.{line_of, rows_of, IsLastAt}
use Rattle.autocoder_1401.proofs.placing_line.line_placing.Goals as goal

pub faultless_line-requires-clause-chains : goal.faultless_line-requires-clause-chains
faultless_line-requires-clause-chains c =
    c.in_ok-read.ensures.chains
    ∙ ap (λ (lines : List Line). chains_of (sites_of lines) lines) (sym c.lend-lines.ensures)

pub returns-clause-ok : goal.returns-clause-ok
returns-clause-ok c =
    c.in_ok-number.ensures.ok
    ∙ ap (λ (lines : List Line). line_of (rows_of lines) c.args.at c.args.cells.now)
    (c.lend-lines.ensures ∙ c.in_ok-read.ensures.lines)

pub returns-clause-last : goal.returns-clause-last
returns-clause-last c =
    subst (λ (lines : List Line). IfSome c.in_ok-number.number
    (IsLastAt lines c.args.at (characters_text c.args.cells.now))) (c.lend-lines.ensures ∙ c.in_ok-read.ensures.lines)
    c.in_ok-number.ensures.last
