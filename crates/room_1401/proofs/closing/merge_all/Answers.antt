-- One seat more: its part, and what it made.
use Rattle.std.proofs.Common.{arith, length-append, [], ◌∷◌}
use Rattle.room_1401.proofs.ClosingLemmas.{made_push}
use Rattle.room_1401.proofs.closing.merge_all.Goals as goal

pub loop-seat-preserved : goal.loop-seat-preserved
loop-seat-preserved g c =
    let so_far = c.loop-seat.yielded in
    let i = c.loop-seat.invariant in
    let merged = c.merge.ensures in
    let share = c.into_share.ensures.share in
    record {
      parts = omega (arith, merged.parts, i.parts, share.1, length-append so_far (c.in-Some.seat ∷ []));
      bound = merged.apart;
      amount = omega (arith, merged.amount, i.amount, share.0, made_push so_far c.in-Some.seat);
    }
