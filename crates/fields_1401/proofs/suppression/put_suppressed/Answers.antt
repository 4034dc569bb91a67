-- What each place shows was put, and its word mark cleared.
use Rattle.std.proofs.Common.{◌∙◌}
use Rattle.fields_1401.specs.Across.{chars_across, units_unzoned}
use Rattle.fields_1401.specs.Suppress.{suppressed}
use Rattle.fields_1401.proofs.AcrossLemmas.{length-unzoned_across, across_cleared}
use Rattle.fields_1401.proofs.SuppressLemmas.{length-suppressed}
use Rattle.fields_1401.proofs.suppression.put_suppressed.Goals as goal

pub returns-clause-put : goal.returns-clause-put
returns-clause-put c =
    let s = c.args.core.now in
    let xs = units_unzoned (chars_across s c.args.a c.args.n) in
    let size = length-suppressed xs ∙ length-unzoned_across s c.args.a c.args.n c.requires.a_in c.requires.a_places in
    across_cleared s c.put_figures.new.core c.clear_marks.new.self c.args.b c.args.n (suppressed xs)
    c.put_figures.ensures.put c.clear_marks.ensures.value size c.requires.b_in
