-- What the assembler tells if no fault of a line is told isn't in core.
use Rattle.std.proofs.Common.{◌∙◌, sym}
use Rattle.std.proofs.lemmas.Bool.{eqb-true}
use Rattle.std.proofs.lemmas.List.{nil_from_length}
use Rattle.autocoder_symbols.specs.Reading.{lines_in}
use Rattle.autocoder_1401.specs.Assembly.{assembly_of}
use Rattle.autocoder_1401.proofs.AllFaultsLemmas.{one_outside}
use Rattle.autocoder_1401.proofs.all_faults.add_outside.Goals as goal

pub returns-in_ok-push-clause-ok : goal.returns-in_ok-push-clause-ok
returns-in_ok-push-clause-ok c =
    c.in_ok-push.ensures.items
    ∙ one_outside c.args.language c.args.size (lines_in c.args.language c.args.source.now)
    (assembly_of c.args.language c.args.size c.args.source.now)
    c.args.faults.now.items c.in-Some.fault c.requires
    (nil_from_length c.args.faults.now.items
    (sym c.args.faults.now.ok.0 ∙ eqb-true c.args.faults.now.len 0 (sym c.if-is_empty.ensures))) (sym c.in-Some.is ∙ c.in_ok-outside.ensures.ok)
