-- Over all requests the seat has seen no less.
use Rattle.serving_page.proofs.SeatPageLemmas.{goes_on}
use Rattle.serving_page.proofs.listening.answer_page.Goals as goal

pub returns-clause-seat : goal.returns-clause-seat
returns-clause-seat g c =
    goes_on g.J.RoomId.size g.G.Gate.says _ c.args.page.now c.answer_each.new.service c.answer_each.ensures
