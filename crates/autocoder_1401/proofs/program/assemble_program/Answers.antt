-- The answer is that of the passes, and the rows and the symbols are those of the lines.
use Rattle.std.proofs.Common.{◌≡◌, List, IfOk, ◌∙◌, sym, ap, subst}
use Rattle.std.proofs.lemmas.Result.{err_from_is_err_and}
use Rattle.autocoder_statements.specs.declared.statement.Line.{Line}
use Rattle.autocoder_symbols.specs.Chains.{chains_of}
use Rattle.autocoder_symbols.specs.Symbols.{sites_of}
use Rattle.autocoder_diagnostics.specs.FirstFault.{first_fault}
use Rattle.autocoder_listing.specs.Rows.{rows_of}
use Rattle.autocoder_listing.specs.SymbolTable.{symbols_in}
use Rattle.autocoder_1401.specs.declared.program.AssemblyProgram.{AssemblyProgram as Made}
use Rattle.autocoder_1401.proofs.AssemblyLemmas.{not_read, made, made_in_core}
use Rattle.autocoder_1401.proofs.LanguagesLemmas.{agrees_with_plain}
use Rattle.autocoder_1401.proofs.program.assemble_program.Goals as goal

pub faultless_program-requires-clause-chains : goal.faultless_program-requires-clause-chains
faultless_program-requires-clause-chains c =
    c.in_ok-read.ensures.chains
    ∙ ap (λ (lines : List Line). chains_of (sites_of lines) lines) (sym c.lend-lines.ensures)

pub faultless_program-requires-clause-few : goal.faultless_program-requires-clause-few
faultless_program-requires-clause-few c = rw c.lend-lines.ensures c.in_ok-read.ensures.few

pub returns-in_err-read-clause-exact : goal.returns-in_err-read-clause-exact
returns-in_err-read-clause-exact c =
    let p = err_from_is_err_and c.from_residual.result c.from_residual.ensures.1 in
    rw (p.1, p.2) (not_read c.args.language c.args.size c.args.source.now _ c.in_err-read.ensures.first)

pub returns-in_err-read-clause-plain : goal.returns-in_err-read-clause-plain
returns-in_err-read-clause-plain c = agrees_with_plain c.args.language c.args.size c.args.source.now

pub returns-clause-plain : goal.returns-clause-plain
returns-clause-plain c = agrees_with_plain c.args.language c.args.size c.args.source.now

pub returns-clause-exact : goal.returns-clause-exact
returns-clause-exact c =
    made (λ (value : Made). value.image) c.args.language c.args.size c.args.source.now c.lend-lines.result
    c.faultless_program.result (c.lend-lines.ensures ∙ c.in_ok-read.ensures.lines)
    (ap (first_fault c.args.language) c.lend-lines.ensures ∙ c.in_ok-read.ensures.none)
    c.faultless_program.ensures.image c.faultless_program.ensures.inside c.faultless_program.ensures.outside

pub returns-clause-rows : goal.returns-clause-rows
returns-clause-rows c =
    subst (λ (lines : List Line). IfOk c.faultless_program.result (λ (value : Made). value.rows ≡ rows_of lines))
    (c.lend-lines.ensures ∙ c.in_ok-read.ensures.lines) c.faultless_program.ensures.rows

pub returns-clause-symbols : goal.returns-clause-symbols
returns-clause-symbols c =
    subst (λ (lines : List Line). IfOk c.faultless_program.result
    (λ (value : Made). value.symbols.items ≡ symbols_in lines))
    (c.lend-lines.ensures ∙ c.in_ok-read.ensures.lines) c.faultless_program.ensures.symbols

pub returns-clause-in_core : goal.returns-clause-in_core
returns-clause-in_core c size_is =
    made_in_core (λ (value : Made). value.image) c.args.size c.lend-lines.result c.faultless_program.result size_is
    c.faultless_program.ensures.image c.faultless_program.ensures.inside
