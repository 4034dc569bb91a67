-- What is written at once follows the page that was written before.
use Rattle.std.proofs.Common.{ℕ, List, [], ◌++◌, subst, sym, arith}
use Rattle.std.proofs.lemmas.Result.{on_ok_weaker, on_err_weaker, err_from_is_err_and}
use Rattle.bytes_streams.specs.Sink.{AppendsPart}
use Rattle.bytes_streams.specs.Page.{Sent}
use Rattle.bytes_streams.proofs.SentLemmas.{part_before, sent_all, sent_before, sent_more, sent_part}
use Rattle.bytes_streams.proofs.page.put_through.Goals as goal

pub returns-in_err-make_room-clause-part : goal.returns-in_err-make_room-clause-part
returns-in_err-make_room-clause-part g c =
    let p = err_from_is_err_and c.from_residual.result c.from_residual.ensures.1 in
    rw p.1 (part_before _ _ c.args.page.now.items c.args.bytes.now c.in_err-make_room.ensures.part)

pub returns-then-bytes-gt-PAGE-clause-sent : goal.returns-then-bytes-gt-PAGE-clause-sent
returns-then-bytes-gt-PAGE-clause-sent g c =
    let old = g.W.Sink.received c.args.writer.now in
    let between = g.W.Sink.received c.make_room.new.writer in
    let new = g.W.Sink.received c.put_all.new.writer in
    let none = c.in_ok-make_room.ensures.none (omega (arith, c.if-bytes-gt-PAGE.true)) in
    let before = sent_before old between _ _ c.args.bytes.now c.in_ok-make_room.ensures.sent in
    on_ok_weaker c.put_all.result
    (λ all. subst (λ left. Sent old new (c.args.page.now.items ++ c.args.bytes.now) left) (sym {A = List ℕ} none)
    (sent_more old between new _ _ _ before
    (subst (λ text. Sent between new (text ++ c.args.bytes.now) []) (sym {A = List ℕ} none) (sent_all between new _ all))))
    c.put_all.ensures.ok

pub returns-then-bytes-gt-PAGE-clause-part : goal.returns-then-bytes-gt-PAGE-clause-part
returns-then-bytes-gt-PAGE-clause-part g c =
    let old = g.W.Sink.received c.args.writer.now in
    let between = g.W.Sink.received c.make_room.new.writer in
    let new = g.W.Sink.received c.put_all.new.writer in
    let none = c.in_ok-make_room.ensures.none (omega (arith, c.if-bytes-gt-PAGE.true)) in
    let before = sent_before old between _ _ c.args.bytes.now c.in_ok-make_room.ensures.sent in
    on_err_weaker c.put_all.result
    (λ part. sent_part old between new _ _ before
    (subst (λ text. AppendsPart between new (text ++ c.args.bytes.now)) (sym {A = List ℕ} none) part))
    c.put_all.ensures.part
