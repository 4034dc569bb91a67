-- Publishing keeps the rule, since the pending changes lead to a replay.
use Rattle.std.proofs.Common.{drop}
use Rattle.room_1401.proofs.RuleLemmas.{shows}
use Rattle.room_1401.proofs.publisher.show.Goals as goal

pub publish_as-writer-requires : goal.publish_as-writer-requires
publish_as-writer-requires g c next is =
    let writer = c.args.writer in
    let pending = drop writer.behind writer.log.items in
    shows g.J.RoomId.book g.J.RoomId.size _ _ writer.desk.shown.value next pending c.requires is
