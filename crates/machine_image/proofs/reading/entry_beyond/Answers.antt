-- One line more, by what it says.
use Rattle.std.proofs.Common.{sym, ap, ◌∙◌}
use Rattle.machine_image.specs.Image.{is_inside}
use Rattle.machine_image.specs.Reading.{as_segment, entry_by, parts_of}
use Rattle.machine_image.proofs.ContentsLemmas.{inside_by, outside_by}
use Rattle.machine_image.proofs.LentLemmas.{read_at_segment, read_at_outside, read_at_last, read_at_rest}
use Rattle.machine_image.proofs.reading.entry_beyond.Goals as goal

pub returns-in_default-segment-clause-value : goal.returns-in_default-segment-clause-value
returns-in_default-segment-clause-value c =
    c.last_entry.ensures.value
    ∙ ap (λ entry. entry_by c.args.size entry (parts_of c.in-Some.beyond.now)) c.entry.ensures
    ∙ sym (read_at_last c.args.version c.args.size c.in-Some.line.now c.in-Some.beyond.now _ c.in-Some.ensures.0
    c.in_default-segment.ensures)
    ∙ c.loop-line.invariant

pub returns-then-is_err-clause-value : goal.returns-then-is_err-clause-value
returns-then-is_err-clause-value c =
    let found = as_segment c.in-Some-segment.spelled in
    let outside = outside_by (is_inside c.args.size found) found c.segment_inside.result c.segment_inside.ensures
    (sym c.is_err.ensures.value ∙ c.if-is_err.true) in
    sym (read_at_outside c.args.version c.args.size found c.in-Some.line.now c.in-Some.beyond.now _ c.in-Some.ensures.0
    c.in-Some-segment.ensures outside)
    ∙ c.loop-line.invariant

pub loop-line-preserved : goal.loop-line-preserved
loop-line-preserved c =
    let found = as_segment c.in-Some-segment.spelled in
    let inside = inside_by (is_inside c.args.size found) found c.segment_inside.result c.segment_inside.ensures
    (sym c.is_err.ensures.value ∙ c.if-is_err.false) in
    sym (read_at_segment c.args.version c.args.size found c.in-Some.line.now c.in-Some.beyond.now _ c.in-Some.ensures.0
    c.in-Some-segment.ensures inside)
    ∙ c.loop-line.invariant

pub returns-clause-value : goal.returns-clause-value
returns-clause-value c =
    sym (read_at_rest c.args.version c.args.size c.loop-line.rest.now _ c.in_default.ensures)
    ∙ c.loop-line.invariant
