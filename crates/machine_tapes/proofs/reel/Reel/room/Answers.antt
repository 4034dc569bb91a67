-- Each byte below the head is a character that was passed.
use Rattle.std.proofs.Common.{ap, arith}
use Rattle.machine_tapes.specs.Reel.{Reel, room_in}
use Rattle.machine_tapes.proofs.ReelLemmas.{room_left}
use Rattle.machine_tapes.proofs.reel.Reel.room.Goals as goal

pub returns : goal.returns
returns c =
    let reel = c.self.inside in
    let left = room_left reel.bytes.items reel.head reel.end c.self.invariant.0 in
    let size = ap (λ (r : Reel). room_in r) c.self.view_is in
    omega (arith, left, size, c.len.ensures)
