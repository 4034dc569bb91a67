-- What the assembler tells if no fault of a line is told isn't in core.
use Rattle.std.proofs.Common.{◌∙◌, sym}
use Rattle.std.proofs.lemmas.Bool.{eqb-true}
use Rattle.std.proofs.lemmas.List.{nil_from_length}
use Rattle.autocoder_statements.specs.SourceLine.{lines_of}
use Rattle.autocoder_1401.specs.Assembly.{assembly_of}
use Rattle.autocoder_1401.proofs.ExplainingLemmas.{outside_explained}
use Rattle.autocoder_1401.proofs.explaining.add_outside_explained.Goals as goal

pub returns-in_ok-push-clause-ok : goal.returns-in_ok-push-clause-ok
returns-in_ok-push-clause-ok c =
    c.in_ok-push.ensures.items
    ∙ outside_explained c.args.language c.args.size (lines_of c.args.source.now)
    (assembly_of c.args.language c.args.size c.args.source.now)
    c.args.explanations.now.items c.in-Some.fault c.requires
    (nil_from_length c.args.explanations.now.items
    (sym c.args.explanations.now.ok.0 ∙ eqb-true c.args.explanations.now.len 0 (sym c.if-is_empty.ensures)))
    (sym c.in-Some.is ∙ c.in_ok-outside.ensures.ok)
