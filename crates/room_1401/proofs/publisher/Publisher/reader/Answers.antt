-- A new reader has seen nothing, which keeps the rule.
use Rattle.room_1401.proofs.RuleLemmas.{admits}
use Rattle.room_1401.proofs.publisher.Publisher.reader.Goals as goal

pub reader-requires : goal.reader-requires
reader-requires g c = admits g.J.RoomId.book g.J.RoomId.size
