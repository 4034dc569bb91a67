-- The answer is that of the passes, and the tables are those of the lines.
use Rattle.std.proofs.Common.{◌≡◌, List, length, IfOk, ◌∙◌, sym, ap, subst}
use Rattle.std.proofs.lemmas.Result.{err_from_is_err_and}
use Rattle.autocoder_statements.specs.SourceLine.{lines_of}
use Rattle.autocoder_statements.specs.declared.statement.Line.{Line}
use Rattle.autocoder_symbols.specs.Chains.{chains_of}
use Rattle.autocoder_symbols.specs.Symbols.{sites_of}
use Rattle.autocoder_diagnostics.specs.FirstFault.{first_fault}
use Rattle.autocoder_listing.specs.CrossReference.{references_text}
use Rattle.autocoder_listing.specs.Listing.{listing_text, listing_with}
use Rattle.autocoder_listing.specs.SymbolTable.{symbols_text}
use Rattle.autocoder_listing.specs.Writing.{text_for}
use Rattle.autocoder_1401.specs.declared.tables.AssemblyTables.{AssemblyTables as Made}
use Rattle.autocoder_1401.proofs.AssemblyLemmas.{not_read, made}
use Rattle.autocoder_1401.proofs.LanguagesLemmas.{agrees_with_plain}
use Rattle.autocoder_1401.proofs.tables.assemble_with_tables.Goals as goal

pub faultless_tables-requires-clause-chains : goal.faultless_tables-requires-clause-chains
faultless_tables-requires-clause-chains c =
    c.in_ok-read.ensures.chains
    ∙ ap (λ (lines : List Line). chains_of (sites_of lines) lines) (sym c.lend-lines.ensures)

pub faultless_tables-requires-clause-as_many : goal.faultless_tables-requires-clause-as_many
faultless_tables-requires-clause-as_many c = ap length c.lend-lines.ensures ∙ c.in_ok-read.ensures.as_many

pub faultless_tables-requires-clause-few : goal.faultless_tables-requires-clause-few
faultless_tables-requires-clause-few c = rw c.lend-lines.ensures c.in_ok-read.ensures.few

pub returns-in_err-read-clause-exact : goal.returns-in_err-read-clause-exact
returns-in_err-read-clause-exact c =
    let p = err_from_is_err_and c.from_residual.result c.from_residual.ensures.1 in
    rw (p.1, p.2) (not_read c.args.language c.args.size c.args.source.now _ c.in_err-read.ensures.first)

pub returns-in_err-read-clause-plain : goal.returns-in_err-read-clause-plain
returns-in_err-read-clause-plain c = agrees_with_plain c.args.language c.args.size c.args.source.now

pub returns-clause-plain : goal.returns-clause-plain
returns-clause-plain c = agrees_with_plain c.args.language c.args.size c.args.source.now

pub returns-clause-exact : goal.returns-clause-exact
returns-clause-exact c =
    made (λ (value : Made). value.image) c.args.language c.args.size c.args.source.now c.lend-lines.result
    c.faultless_tables.result (c.lend-lines.ensures ∙ c.in_ok-read.ensures.lines)
    (ap (first_fault c.args.language) c.lend-lines.ensures ∙ c.in_ok-read.ensures.none)
    c.faultless_tables.ensures.image c.faultless_tables.ensures.inside c.faultless_tables.ensures.outside

pub returns-clause-listing : goal.returns-clause-listing
returns-clause-listing c =
    subst
    (λ (lines : List Line). IfOk c.faultless_tables.result (λ (value : Made).
    text_for c.args.source.now value.listing ≡ listing_text (listing_with lines (lines_of c.args.source.now))))
    (c.lend-lines.ensures ∙ c.in_ok-read.ensures.lines) c.faultless_tables.ensures.listing

pub returns-clause-ready : goal.returns-clause-ready
returns-clause-ready c =
    c.faultless_tables.ensures.ready

pub returns-clause-symbols : goal.returns-clause-symbols
returns-clause-symbols c =
    subst (λ (lines : List Line). IfOk c.faultless_tables.result
    (λ (value : Made). value.symbols.items ≡ symbols_text lines))
    (c.lend-lines.ensures ∙ c.in_ok-read.ensures.lines) c.faultless_tables.ensures.symbols

pub returns-clause-references : goal.returns-clause-references
returns-clause-references c =
    subst (λ (lines : List Line). IfOk c.faultless_tables.result
    (λ (value : Made). value.references.items ≡ references_text lines))
    (c.lend-lines.ensures ∙ c.in_ok-read.ensures.lines) c.faultless_tables.ensures.references
