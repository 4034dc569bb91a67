-- A seat that sees more still has what it made among its own commands.
use Rattle.room_1401.proofs.SeenLemmas.{own_longer}
use Rattle.room_1401.proofs.seat.Seat.glance.Goals as goal

pub invariant_of-self-2 : goal.invariant_of-self-2
invariant_of-self-2 g c =
    let i = c.self.invariant in
    let seat = c.self.inside in
    (i.0, i.1, i.2, own_longer seat.number seat.made seat.front c.longer.result i.3 c.longer.ensures.this)
