-- All seats are back, and one of them has seen more than is shown.
use Rattle.std.proofs.Common.{◌≡◌, ◌∙◌, ℕ, List, ap, arith, subst}
use Rattle.room_1401.specs.Closing.{OneBeyond, back_of}
use Rattle.room_1401.specs.Keeping.{shown_in}
use Rattle.room_1401.specs.Seen.{SeatView}
use Rattle.room_1401.proofs.shared_room.SharedRoom.close_kept.Goals as goal

pub returns-then-not-knows-clause-fault : goal.returns-then-not-knows-clause-fault
returns-then-not-knows-clause-fault g c =
    let n = g.J.RoomId.seats in
    let seats = c.args.seats.items in
    let total = c.seats-total.ensures in
    let back = c.count_back-back.ensures in
    let shown = shown_in c.into_inner-locked.result in
    let is : c.count_back-back.result ≡ back_of n seats =
    back.back
    ∙ ap (λ (k : ℕ). back_of k c.as_slice.result.now) total
    ∙ ap (λ (those : List SeatView). back_of n those) c.as_slice.ensures.value in
    let all : back_of n seats ≡ n = omega (arith, is, back.bound, total, c.if-back-total.false) in
    let beyond : OneBeyond shown seats =
    subst (λ (those : List SeatView). OneBeyond shown those) c.as_slice-2.ensures.value c.if-not-knows.ensures.fit in
    (all, (shown, (c.into_inner-locked.result.failed, c.if-not-knows.ensures.shown), beyond))
