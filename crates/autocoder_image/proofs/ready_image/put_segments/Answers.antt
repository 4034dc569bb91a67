-- The line of a segment follows what isn't written yet.
use Rattle.std.proofs.Common.{ℕ, List, ◌++◌, subst}
use Rattle.machine_image.specs.ImageText.{line_of, segment_text, segments_text}
use Rattle.machine_image.specs.declared.version.Version.TheVariants.{Two}
use Rattle.machine_notation.proofs.RoomLemmas.{if_so}
use Rattle.bytes_streams.specs.Sink.{AppendsPart}
use Rattle.bytes_streams.specs.Page.{Sent}
use Rattle.bytes_streams.proofs.SentLemmas.{part_before, sent_before, sent_more, sent_part}
use Rattle.autocoder_image.specs.Pages.{unwritten}
use Rattle.autocoder_image.proofs.PagesLemmas.{no_line, one_line}
use Rattle.autocoder_image.proofs.ready_image.put_segments.Goals as goal

pub returns-in_err-put_segment-clause-part : goal.returns-in_err-put_segment-clause-part
returns-in_err-put_segment-clause-part g c =
    let at = c.loop-segment in
    let so_far = g.W.Sink.received at.writer in
    let new = g.W.Sink.received c.put_segment.new.writer in
    let left : List ℕ = unwritten at.pages in
    if_so c.from_residual.result
    (sent_part (g.W.Sink.received c.args.writer.now) so_far new _ _ at.invariant.sent
    (subst (λ text. AppendsPart so_far new text)
    (one_line left at.rest c.in-Some.beyond c.in-Some.segment c.in-Some.ensures)
    (part_before so_far new (left ++ line_of (segment_text Two c.in-Some.segment))
    (segments_text Two c.in-Some.beyond) c.in_err-put_segment.ensures.part)))

pub loop-segment-preserved : goal.loop-segment-preserved
loop-segment-preserved g c =
    let at = c.loop-segment in
    let so_far = g.W.Sink.received at.writer in
    let new = g.W.Sink.received c.put_segment.new.writer in
    let left : List ℕ = unwritten at.pages in
    let beyond : List ℕ = segments_text Two c.in-Some.beyond in
    let page : List ℕ = unwritten c.put_segment.new.self in
    record {
      sent =
          sent_more (g.W.Sink.received c.args.writer.now) so_far new _ _ _ at.invariant.sent
          (subst (λ text. Sent so_far new text (page ++ beyond))
          (one_line left at.rest c.in-Some.beyond c.in-Some.segment c.in-Some.ensures)
          (sent_before so_far new (left ++ line_of (segment_text Two c.in-Some.segment)) page beyond
          c.in_ok-put_segment.ensures.sent));
      room = c.put_segment.ensures.room;
    }

pub returns-clause-sent : goal.returns-clause-sent
returns-clause-sent g c =
    let at = c.loop-segment in
    subst (λ left. Sent (g.W.Sink.received c.args.writer.now) (g.W.Sink.received at.writer)
    (unwritten c.args.pages.now ++ segments_text Two c.args.image.now.segments) left)
    (no_line (unwritten at.pages) at.rest c.in_default.ensures) at.invariant.sent
