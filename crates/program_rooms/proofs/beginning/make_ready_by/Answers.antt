-- The image is loaded, and then the cards are fed.
use Rattle.std.proofs.Common.{sym, subst}
use Rattle.std.proofs.lemmas.Result.{on_ok_weaker}
use Rattle.machine_image.specs.Loading.{load_commands}
use Rattle.program_rooms.specs.Beginning.{GaveAll, feed_commands, ready_commands}
use Rattle.program_rooms.proofs.BeginningLemmas.{gave_both}
use Rattle.program_rooms.proofs.beginning.make_ready_by.Goals as goal

pub returns-in_ok-put_image_by-in-Some-clause-gave :
    goal.returns-in_ok-put_image_by-in-Some-clause-gave
returns-in_ok-put_image_by-in-Some-clause-gave g c =
    let size = g.J.RoomId.size in
    let cards = c.args.cards.now in
    let old = c.args.seat.now in
    let seat = c.put_image_by.new.seat in
    let new = c.feed_by-in-Some.new.seat in
    let loaded = c.in_ok-put_image_by-in-Some.ensures.gave in
    on_ok_weaker c.feed_by-in-Some.result (λ fed. subst (λ image. GaveAll size (ready_commands image cards) old new)
    (sym c.in-Some.is)
    (gave_both size (load_commands c.in-Some.image) (feed_commands cards) old seat new loaded fed))
    c.feed_by-in-Some.ensures.gave
