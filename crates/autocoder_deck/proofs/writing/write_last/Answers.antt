-- What is written last follows what was written to make room.
use Rattle.std.proofs.Common.{ℕ, List, [], ◌∙◌, subst}
use Rattle.std.proofs.lemmas.Result.{on_ok_weaker, on_err_weaker}
use Rattle.std.specs.Io.KnownBytes.{Appends}
use Rattle.std.specs.List.{flat_map}
use Rattle.machine_notation.proofs.RoomLemmas.{if_so}
use Rattle.bytes_streams.specs.Sink.{AppendsPart}
use Rattle.autocoder_deck.specs.ImageListing.{marked_line, start_line}
use Rattle.autocoder_deck.specs.Stretches.{built}
use Rattle.autocoder_deck.specs.Writing.{listed}
use Rattle.bytes_streams.proofs.SentLemmas.{part_before, sent_before, sent_part, sent_rest}
use Rattle.autocoder_deck.proofs.writing.write_last.Goals as goal

pub returns-in_err-make_room-clause-part : goal.returns-in_err-make_room-clause-part
returns-in_err-make_room-clause-part g c =
    if_so c.from_residual.result
    (part_before _ _ (listed c.args.text.now c.args.builder.now []) (start_line c.args.start)
    (part_before _ _ c.args.text.now.items (flat_map (marked_line []) (built c.args.builder.now []))
    c.in_err-make_room.ensures.part))

pub returns-clause-ok : goal.returns-clause-ok
returns-clause-ok g c =
    let old = g.W.Sink.received c.args.writer.now in
    let between = g.W.Sink.received c.make_room.new.writer in
    let new = g.W.Sink.received c.put_all.new.writer in
    let last : List ℕ = flat_map (marked_line []) (built c.args.builder.now []) in
    let sent = sent_before old between _ _ (start_line c.args.start)
    (sent_before old between c.args.text.now.items c.make_room.new.page.items last c.in_ok-make_room.ensures.sent) in
    on_ok_weaker c.put_all.result
    (λ all. sent_rest old between new _ _ sent
    (subst (λ text. Appends between new text) (c.as_slice.ensures.value ∙ c.put_last.ensures) all))
    c.put_all.ensures.ok

pub returns-clause-part : goal.returns-clause-part
returns-clause-part g c =
    let old = g.W.Sink.received c.args.writer.now in
    let between = g.W.Sink.received c.make_room.new.writer in
    let new = g.W.Sink.received c.put_all.new.writer in
    let last : List ℕ = flat_map (marked_line []) (built c.args.builder.now []) in
    let sent = sent_before old between _ _ (start_line c.args.start)
    (sent_before old between c.args.text.now.items c.make_room.new.page.items last c.in_ok-make_room.ensures.sent) in
    on_err_weaker c.put_all.result
    (λ part. sent_part old between new _ _ sent
    (subst (λ text. AppendsPart between new text) (c.as_slice.ensures.value ∙ c.put_last.ensures) part))
    c.put_all.ensures.part
