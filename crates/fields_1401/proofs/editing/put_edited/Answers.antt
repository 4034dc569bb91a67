-- What each place shows was put, zeros and commas suppressed, and the word marks cleared.
use Rattle.std.proofs.Common.{ℕ, ap, ◌∙◌, arith, min}
use Rattle.fields_1401.specs.Across.{chars_across, units_unzoned, char_to}
use Rattle.fields_1401.specs.Edit.{edited, unsuppressed, sign_at, before_significant}
use Rattle.fields_1401.proofs.AcrossLemmas.{length-across, across_cleared}
use Rattle.fields_1401.proofs.EditLemmas.{length-edited, edited_again}
use Rattle.fields_1401.proofs.editing.put_edited.Goals as goal

pub suppress_places-requires-clause-count : goal.suppress_places-requires-clause-count
suppress_places-requires-clause-count c =
    omega (arith, c.min.ensures, c.put_unsuppressed-significant.ensures.most)

pub returns-clause-put : goal.returns-clause-put
returns-clause-put c =
    let s = c.args.core.now in
    let o = c.args.word in
    let control = chars_across s o.b o.len in
    let digits = units_unzoned (chars_across s o.a o.taken) in
    let sign = sign_at s o.a in
    let control_size = length-across s o.b o.len c.requires.b o.b_above in
    let size = length-edited control digits sign ∙ control_size in
    let count = c.min.result in
    let put = c.suppress_places.ensures.suppressed s (char_to (unsuppressed control digits sign))
    c.put_unsuppressed-significant.ensures.put
    ∙ edited_again s o.b o.len control digits sign count control_size
    (c.min.ensures ∙ ap (λ (n : ℕ). min n c.from-limit.result) c.put_unsuppressed-significant.ensures.significant
    ∙ ap (λ (n : ℕ). min (before_significant control digits) n) (c.from-limit.ensures ∙ c.limit.ensures)) in
    across_cleared s c.suppress_places.new.core c.clear_marks.new.self o.b o.len (edited control digits sign)
    put c.clear_marks.ensures.value size c.requires.b
