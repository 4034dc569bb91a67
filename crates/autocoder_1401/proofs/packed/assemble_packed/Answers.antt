-- The answer is that of the passes; nothing of any line is outside core storage, so the image lies in it, and has a text.
use Rattle.std.proofs.Common.{◌≡◌, List, true, Result, Ok, Err, IfOk, ◌∙◌, refl, sym, ap}
use Rattle.std.proofs.lemmas.Result.{err_from_is_err_and}
use Rattle.std.specs.List.{list_all}
use Rattle.machine_image.specs.Image.{IsInCore}
use Rattle.machine_image.specs.ImageText.{written_text, is_segment, IsTextOf}
use Rattle.machine_image.specs.declared.image.Image.{Image}
use Rattle.machine_image.specs.declared.version.Version.TheVariants.{Two}
use Rattle.autocoder_statements.specs.declared.statement.Line.{Line}
use Rattle.autocoder_symbols.specs.Chains.{chains_of}
use Rattle.autocoder_symbols.specs.Symbols.{sites_of}
use Rattle.autocoder_diagnostics.specs.FirstFault.{first_fault}
use Rattle.autocoder_symbols.specs.declared.fault.AsmFault.{AsmFault}
use Rattle.autocoder_1401.proofs.AssemblyLemmas.{not_read, made, made_in_core}
use Rattle.autocoder_1401.proofs.LanguagesLemmas.{agrees_with_plain}
use Rattle.autocoder_1401.proofs.packed.assemble_packed.Goals as goal

pub faultless_packed-requires-clause-chains : goal.faultless_packed-requires-clause-chains
faultless_packed-requires-clause-chains c =
    c.in_ok-read.ensures.chains
    ∙ ap (λ (lines : List Line). chains_of (sites_of lines) lines) (sym c.lend-lines.ensures)

pub faultless_packed-requires-clause-few : goal.faultless_packed-requires-clause-few
faultless_packed-requires-clause-few c = rw c.lend-lines.ensures c.in_ok-read.ensures.few

pub returns-in_err-read-clause-exact : goal.returns-in_err-read-clause-exact
returns-in_err-read-clause-exact c =
    let p = err_from_is_err_and c.from_residual.result c.from_residual.ensures.1 in
    rw (p.1, p.2) (not_read c.args.language c.args.size c.args.source.now _ c.in_err-read.ensures.first)

pub returns-in_err-read-clause-plain : goal.returns-in_err-read-clause-plain
returns-in_err-read-clause-plain c = agrees_with_plain c.args.language c.args.size c.args.source.now

pub returns-clause-plain : goal.returns-clause-plain
returns-clause-plain c = agrees_with_plain c.args.language c.args.size c.args.source.now

pub returns-clause-exact : goal.returns-clause-exact
returns-clause-exact c =
    made (λ (image : Image). image) c.args.language c.args.size c.args.source.now c.lend-lines.result
    c.faultless_packed.result (c.lend-lines.ensures ∙ c.in_ok-read.ensures.lines)
    (ap (first_fault c.args.language) c.lend-lines.ensures ∙ c.in_ok-read.ensures.none)
    c.faultless_packed.ensures.ok c.faultless_packed.ensures.inside c.faultless_packed.ensures.outside

pub returns-clause-in_core : goal.returns-clause-in_core
returns-clause-in_core c size_is =
    made_in_core (λ (image : Image). image) c.args.size c.lend-lines.result c.faultless_packed.result size_is
    c.faultless_packed.ensures.ok c.faultless_packed.ensures.inside

-- an image in core whose segments are those of a text has one
text_of : (result : Result Image AsmFault) → IfOk result IsInCore
    → IfOk result (λ image. list_all is_segment image.segments ≡ true)
    → IfOk result (λ image. IsTextOf (written_text image) image)
text_of (Ok image) inside cells =
    record {
      version = Two;
      has_text = record { size = inside.size; cells = cells; segments = inside.segments; start = inside.start };
      text_is = refl;
    }
text_of (Err fault) inside cells = tt

pub returns-clause-again : goal.returns-clause-again
returns-clause-again c size_is =
    text_of c.faultless_packed.result
    (made_in_core (λ (image : Image). image) c.args.size c.lend-lines.result c.faultless_packed.result size_is
    c.faultless_packed.ensures.ok c.faultless_packed.ensures.inside)
    c.faultless_packed.ensures.segments
