-- What a seat made is less than its own commands, so one more is still a number of 64 bits.
use Rattle.std.proofs.Common.{arith, ap, length}
use Rattle.room_1401.proofs.SeenLemmas.{own_length}
use Rattle.room_1401.proofs.seat.Seat.credit.Goals as goal

pub overflow_add-self : goal.overflow_add-self
overflow_add-self g c =
    let seat = c.args.self.now in
    let most = own_length seat.number seat.list in
    let made = ap (λ knows. knows.made) c.self.view_is in
    let len = ap (λ knows. length knows.list) c.self.view_is in
    omega (arith, c.requires, most, made, len, c.len-len.ensures.value)
