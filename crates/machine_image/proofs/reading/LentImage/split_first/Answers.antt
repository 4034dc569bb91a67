-- The first line, by what it says.
use Rattle.std.proofs.Common.{sym, ap, ◌∙◌, ◌∷◌}
use Rattle.machine_image.specs.declared.image.Image.{Image}
use Rattle.machine_image.specs.Image.{is_inside}
use Rattle.machine_image.specs.Lent.{contents_or_none}
use Rattle.machine_image.specs.Reading.{as_segment, contents_in, parts_of}
use Rattle.machine_image.proofs.ContentsLemmas.{inside_from, outside_from}
use Rattle.machine_image.proofs.LentLemmas.{left_at_rest, left_at_last, left_at_outside, left_at_segment}
use Rattle.machine_image.proofs.reading.LentImage.split_first.Goals as goal

pub returns-in_default-clause-first : goal.returns-in_default-clause-first
returns-in_default-clause-first c =
    let self = c.self.inside in
    sym (ap (λ (image : Image). image.segments) c.self.view_is)
    ∙ left_at_rest self.version self.size self.rest.now _ c.in_default.ensures

pub returns-in_default-segment-clause-first : goal.returns-in_default-segment-clause-first
returns-in_default-segment-clause-first c =
    let self = c.self.inside in
    sym (ap (λ (image : Image). image.segments) c.self.view_is)
    ∙ left_at_last self.version self.size c.in-Some.line.now c.in-Some.beyond.now _ c.in-Some.ensures.0
    c.in_default-segment.ensures

pub returns-in_default-segment_inside-clause-first : goal.returns-in_default-segment_inside-clause-first
returns-in_default-segment_inside-clause-first c =
    let self = c.self.inside in
    let found = as_segment c.in-Some-segment.spelled in
    let outside = outside_from (is_inside self.size found) found c.in_default-segment_inside.field-0
    c.in_default-segment_inside.ensures in
    sym (ap (λ (image : Image). image.segments) c.self.view_is)
    ∙ left_at_outside self.version self.size found c.in-Some.line.now c.in-Some.beyond.now _ c.in-Some.ensures.0
    c.in-Some-segment.ensures outside.0

pub invariant_of-rest : goal.invariant_of-rest
invariant_of-rest c =
    let self = c.self.inside in
    let found = as_segment c.in-Some-segment.spelled in
    let inside = inside_from (is_inside self.size found) found c.in-Ok.segment c.in-Ok.ensures in
    let left = left_at_segment self.version self.size self.start found c.in-Some.line.now c.in-Some.beyond.now _
    c.in-Some.ensures.0 c.in-Some-segment.ensures inside.0 c.self.invariant in
    left.good

pub returns-clause-first : goal.returns-clause-first
returns-clause-first c =
    let self = c.self.inside in
    let found = as_segment c.in-Some-segment.spelled in
    let inside = inside_from (is_inside self.size found) found c.in-Ok.segment c.in-Ok.ensures in
    let left = left_at_segment self.version self.size self.start found c.in-Some.line.now c.in-Some.beyond.now _
    c.in-Some.ensures.0 c.in-Some-segment.ensures inside.0 c.self.invariant in
    sym (ap (λ (image : Image). image.segments) c.self.view_is) ∙ left.first
    ∙ ap (λ one. one ∷ (contents_or_none (contents_in self.version self.size (parts_of c.in-Some.beyond.now))).0)
    (sym inside.1)
