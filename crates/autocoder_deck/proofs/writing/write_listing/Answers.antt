-- In the room there is nothing, so what is written is the listing.
use Rattle.std.proofs.Common.{◌≡◌, List, [], ◌++◌, subst, refl}
use Rattle.std.proofs.lemmas.Result.{on_ok_weaker, on_err_weaker}
use Rattle.std.specs.Io.KnownBytes.{Appends}
use Rattle.std.specs.List.{flat_map}
use Rattle.machine_image.specs.declared.image.Segment.{Segment}
use Rattle.machine_notation.proofs.RoomLemmas.{if_so}
use Rattle.bytes_streams.specs.Sink.{AppendsPart}
use Rattle.autocoder_deck.specs.ImageListing.{marked_line, marked_text, start_line}
use Rattle.autocoder_deck.specs.Stretches.{placed_cells, stretches_of}
use Rattle.autocoder_deck.specs.Writing.{listed, HasRoom}
use Rattle.autocoder_deck.specs.declared.writing.ListingRoom.{ListingRoom}
use Rattle.bytes_streams.proofs.SentLemmas.{part_before, sent_before, sent_part, sent_rest}
use Rattle.autocoder_deck.proofs.writing.write_listing.Goals as goal

nothing : (room : ListingRoom) (segments : List Segment) → HasRoom room
    → listed room.text room.builder (placed_cells segments) ≡ flat_map (marked_line []) (stretches_of segments)
nothing room segments empty = rw (empty.0, empty.1, empty.2, empty.4.0) refl

pub returns-in_err-write_segments-clause-part : goal.returns-in_err-write_segments-clause-part
unfolding marked_text
returns-in_err-write_segments-clause-part g c =
    let image = c.args.image.now in
    let old = g.W.Sink.received c.args.writer.now in
    let between = g.W.Sink.received c.write_segments.new.writer in
    if_so c.from_residual.result
    (part_before old between (flat_map (marked_line []) (stretches_of image.segments)) (start_line image.start)
    (subst (λ text. AppendsPart old between text) (nothing c.args.room image.segments c.requires)
    c.in_err-write_segments.ensures.part))

pub returns-clause-ok : goal.returns-clause-ok
unfolding marked_text
returns-clause-ok g c =
    let image = c.args.image.now in
    let old = g.W.Sink.received c.args.writer.now in
    let between = g.W.Sink.received c.write_segments.new.writer in
    let new = g.W.Sink.received c.write_last.new.writer in
    let sent = sent_before old between _ _ (start_line image.start) c.in_ok-write_segments.ensures.sent in
    on_ok_weaker c.write_last.result
    (λ last. subst (λ text. Appends old new (text ++ start_line image.start))
    (nothing c.args.room image.segments c.requires)
    (sent_rest old between new _ _ sent
    (subst (λ start. Appends between new
    (listed c.write_segments.new.text c.write_segments.new.builder [] ++ start_line start)) c.start.ensures last)))
    c.write_last.ensures.ok

pub returns-clause-part : goal.returns-clause-part
unfolding marked_text
returns-clause-part g c =
    let image = c.args.image.now in
    let old = g.W.Sink.received c.args.writer.now in
    let between = g.W.Sink.received c.write_segments.new.writer in
    let new = g.W.Sink.received c.write_last.new.writer in
    let sent = sent_before old between _ _ (start_line image.start) c.in_ok-write_segments.ensures.sent in
    on_err_weaker c.write_last.result
    (λ last. subst (λ text. AppendsPart old new (text ++ start_line image.start))
    (nothing c.args.room image.segments c.requires)
    (sent_part old between new _ _ sent
    (subst (λ start. AppendsPart between new
    (listed c.write_segments.new.text c.write_segments.new.builder [] ++ start_line start)) c.start.ensures last)))
    c.write_last.ensures.part
