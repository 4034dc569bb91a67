-- The text is that of the lines, and the fault that of the passes.
use Rattle.std.proofs.Common.{◌≡◌, List, length, IfOk, ◌∙◌, sym, ap, subst}
use Rattle.std.proofs.lemmas.Result.{err_from_is_err_and}
use Rattle.autocoder_statements.specs.SourceLine.{lines_of}
use Rattle.autocoder_statements.specs.declared.statement.Line.{Line}
use Rattle.autocoder_symbols.specs.Chains.{chains_of}
use Rattle.autocoder_symbols.specs.Symbols.{sites_of}
use Rattle.autocoder_diagnostics.specs.FirstFault.{first_fault}
use Rattle.autocoder_listing.specs.Listing.{listing_text, listing_with}
use Rattle.autocoder_listing.specs.Writing.{text_for}
use Rattle.autocoder_listing.specs.declared.writing.ReadyListing.{ReadyListing}
use Rattle.autocoder_1401.proofs.AssemblyLemmas.{not_read, made_anyway, made_err}
use Rattle.autocoder_1401.proofs.LanguagesLemmas.{agrees_with_plain}
use Rattle.autocoder_1401.proofs.listed.assemble_listing.Goals as goal

pub faultless_listing-requires-clause-chains : goal.faultless_listing-requires-clause-chains
faultless_listing-requires-clause-chains c =
    c.in_ok-read.ensures.chains
    ∙ ap (λ (lines : List Line). chains_of (sites_of lines) lines) (sym c.lend-lines.ensures)

pub faultless_listing-requires-clause-as_many : goal.faultless_listing-requires-clause-as_many
faultless_listing-requires-clause-as_many c = ap length c.lend-lines.ensures ∙ c.in_ok-read.ensures.as_many

pub faultless_listing-requires-clause-few : goal.faultless_listing-requires-clause-few
faultless_listing-requires-clause-few c = rw c.lend-lines.ensures c.in_ok-read.ensures.few

pub returns-in_err-read-clause-fault : goal.returns-in_err-read-clause-fault
returns-in_err-read-clause-fault c =
    let p = err_from_is_err_and c.from_residual.result c.from_residual.ensures.1 in
    rw (p.1, p.2) (not_read c.args.language c.args.size c.args.source.now _ c.in_err-read.ensures.first)

pub returns-in_err-read-clause-plain : goal.returns-in_err-read-clause-plain
returns-in_err-read-clause-plain c = agrees_with_plain c.args.language c.args.size c.args.source.now

pub returns-clause-plain : goal.returns-clause-plain
returns-clause-plain c = agrees_with_plain c.args.language c.args.size c.args.source.now

pub returns-clause-text : goal.returns-clause-text
returns-clause-text c =
    subst
    (λ (lines : List Line). IfOk c.faultless_listing.result (λ (ready : ReadyListing).
    text_for c.args.source.now ready ≡ listing_text (listing_with lines (lines_of c.args.source.now))))
    (c.lend-lines.ensures ∙ c.in_ok-read.ensures.lines) c.faultless_listing.ensures.text

pub returns-clause-ready : goal.returns-clause-ready
returns-clause-ready c =
    c.faultless_listing.ensures.ready

pub returns-clause-assembled : goal.returns-clause-assembled
returns-clause-assembled c =
    made_anyway c.args.language c.args.size c.args.source.now c.lend-lines.result
    c.faultless_listing.result (c.lend-lines.ensures ∙ c.in_ok-read.ensures.lines)
    (ap (first_fault c.args.language) c.lend-lines.ensures ∙ c.in_ok-read.ensures.none)
    c.faultless_listing.ensures.inside

pub returns-clause-fault : goal.returns-clause-fault
returns-clause-fault c =
    made_err c.args.language c.args.size c.args.source.now c.lend-lines.result
    c.faultless_listing.result (c.lend-lines.ensures ∙ c.in_ok-read.ensures.lines)
    (ap (first_fault c.args.language) c.lend-lines.ensures ∙ c.in_ok-read.ensures.none)
    c.faultless_listing.ensures.outside
