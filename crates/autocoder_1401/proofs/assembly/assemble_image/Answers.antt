-- The answer is that of the passes; nothing of any line is outside core storage, so the image lies in it.
use Rattle.std.proofs.Common.{List, ◌∙◌, sym, ap}
use Rattle.std.proofs.lemmas.Result.{err_from_is_err_and}
use Rattle.machine_image.specs.declared.image.Image.{Image}
use Rattle.autocoder_statements.specs.declared.statement.Line.{Line}
use Rattle.autocoder_symbols.specs.Chains.{chains_of}
use Rattle.autocoder_symbols.specs.Reading.{lines_in}
use Rattle.autocoder_symbols.specs.Symbols.{sites_of}
use Rattle.autocoder_diagnostics.specs.FirstFault.{first_fault}
use Rattle.autocoder_placing.proofs.PlacementLawLemmas.{placed_in_turn}
use Rattle.autocoder_1401.proofs.AssemblyLemmas.{not_read, fault_of_read, made, made_in_core, made_cut}
use Rattle.autocoder_1401.proofs.AssemblyLemmas.{made_fault, on_made}
use Rattle.autocoder_1401.proofs.LanguagesLemmas.{agrees_with_plain}
use Rattle.autocoder_1401.proofs.assembly.assemble_image.Goals as goal

pub faultless_image-requires-clause-chains : goal.faultless_image-requires-clause-chains
faultless_image-requires-clause-chains c =
    c.in_ok-read.ensures.chains
    ∙ ap (λ (lines : List Line). chains_of (sites_of lines) lines) (sym c.lend-lines.ensures)

pub returns-in_err-read-clause-exact : goal.returns-in_err-read-clause-exact
returns-in_err-read-clause-exact c =
    let p = err_from_is_err_and c.from_residual.result c.from_residual.ensures.1 in
    rw (p.1, p.2) (not_read c.args.language c.args.size c.args.source.now _ c.in_err-read.ensures.first)

pub returns-in_err-read-clause-plain : goal.returns-in_err-read-clause-plain
returns-in_err-read-clause-plain c = agrees_with_plain c.args.language c.args.size c.args.source.now

pub returns-in_err-read-clause-first : goal.returns-in_err-read-clause-first
returns-in_err-read-clause-first c =
    let p = err_from_is_err_and c.from_residual.result c.from_residual.ensures.1 in
    rw (p.1, p.2) (fault_of_read c.args.language c.args.size (lines_in c.args.language c.args.source.now) _
    c.in_err-read.ensures.first)

pub returns-clause-plain : goal.returns-clause-plain
returns-clause-plain c = agrees_with_plain c.args.language c.args.size c.args.source.now

pub returns-clause-exact : goal.returns-clause-exact
returns-clause-exact c =
    made (λ (image : Image). image) c.args.language c.args.size c.args.source.now c.lend-lines.result
    c.faultless_image.result (c.lend-lines.ensures ∙ c.in_ok-read.ensures.lines)
    (ap (first_fault c.args.language) c.lend-lines.ensures ∙ c.in_ok-read.ensures.none)
    c.faultless_image.ensures.ok c.faultless_image.ensures.inside c.faultless_image.ensures.outside

pub returns-clause-in_core : goal.returns-clause-in_core
returns-clause-in_core c size_is =
    made_in_core (λ (image : Image). image) c.args.size c.lend-lines.result c.faultless_image.result size_is
    c.faultless_image.ensures.ok c.faultless_image.ensures.inside

pub returns-clause-segments : goal.returns-clause-segments
returns-clause-segments c size_is =
    made_cut (λ (image : Image). image) c.args.size c.lend-lines.result (lines_in c.args.language c.args.source.now)
    c.faultless_image.result (c.lend-lines.ensures ∙ c.in_ok-read.ensures.lines) size_is
    c.faultless_image.ensures.ok c.faultless_image.ensures.inside

pub returns-clause-faultless : goal.returns-clause-faultless
returns-clause-faultless c =
    on_made c.faultless_image.result c.in_ok-read.ensures.faultless

pub returns-clause-placement : goal.returns-clause-placement
returns-clause-placement c =
    on_made c.faultless_image.result (placed_in_turn (lines_in c.args.language c.args.source.now))

pub returns-clause-first : goal.returns-clause-first
returns-clause-first c =
    made_fault c.args.language c.args.size c.lend-lines.result (lines_in c.args.language c.args.source.now)
    c.faultless_image.result (c.lend-lines.ensures ∙ c.in_ok-read.ensures.lines) c.in_ok-read.ensures.faultless
    c.faultless_image.ensures.outside
