-- A page is written to make room, and the lines of a segment follow it.
use Rattle.std.proofs.Common.{ℕ, List, [], ◌++◌, ◌≡◌, ◌∙◌, sym, ap, subst, arith}
use Rattle.std.specs.List.{flat_map}
use Rattle.machine_image.specs.declared.image.Segment.{Segment}
use Rattle.machine_notation.proofs.RoomLemmas.{if_so}
use Rattle.autocoder_deck.specs.ImageListing.{marked_line}
use Rattle.autocoder_deck.specs.Stretches.{built, placed_cells}
use Rattle.bytes_streams.specs.Page.{Sent}
use Rattle.autocoder_deck.specs.Writing.{listed}
use Rattle.bytes_streams.proofs.SentLemmas.{part_before, sent_before, sent_more, sent_part}
use Rattle.autocoder_deck.proofs.writing.write_segments.Goals as goal

pub returns-in_err-make_room-clause-part : goal.returns-in_err-make_room-clause-part
returns-in_err-make_room-clause-part g c =
    let at = c.loop-segment in
    if_so c.from_residual.result
    (sent_part (g.W.Sink.received c.args.writer.now) (g.W.Sink.received at.writer)
    (g.W.Sink.received c.make_room.new.writer) _ _ at.invariant.sent
    (part_before _ _ at.text.items (flat_map (marked_line []) (built at.builder (placed_cells at.rest.segments)))
    c.in_err-make_room.ensures.part))

pub loop-segment-preserved : goal.loop-segment-preserved
loop-segment-preserved g c =
    let at = c.loop-segment in
    let so_far = g.W.Sink.received at.writer in
    let new = g.W.Sink.received c.make_room.new.writer in
    let left : List ℕ = flat_map (marked_line []) (built at.builder (placed_cells at.rest.segments)) in
    let more : c.make_room.new.page.items ++ left
    ≡ listed c.put_in_room.new.text c.put_in_room.new.builder (placed_cells c.in-Some.beyond.segments) =
    ap (λ (segments : List Segment). listed c.make_room.new.page at.builder (placed_cells segments))
    c.in-Some.ensures.first
    ∙ sym (c.put_in_room.ensures.text (placed_cells c.in-Some.beyond.segments)) in
    record {
      sent =
          sent_more (g.W.Sink.received c.args.writer.now) so_far new _ _ _ at.invariant.sent
          (subst (λ text. Sent so_far new (at.text.items ++ left) text) more
          (sent_before so_far new at.text.items c.make_room.new.page.items left c.in_ok-make_room.ensures.sent));
      ready = c.put_in_room.ensures.ready;
      room = omega (arith, at.invariant.room, c.in_ok-make_room.ensures.capacity, c.put_in_room.ensures.capacity);
    }
