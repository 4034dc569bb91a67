-- Both lists are beginnings of one, and the seat's is no longer.
use Rattle.std.proofs.Common.{◌≤◌, ap, arith, length, subst, sym, true≢false}
use mathlib.Core.List.{IsPrefix}
use Rattle.room_1401.specs.Seen.{SeatView, own}
use Rattle.room_1401.proofs.SeenLemmas.{fit_list}
use Rattle.room_1401.proofs.seat.Seat.fits.Goals as goal

pub returns-clause-fits : goal.returns-clause-fits
returns-clause-fits g c _ =
    let seat = c.self.inside in
    let front = c.args.front.now in
    let both = c.longer-both.ensures in
    let le : length seat.front ≤ length front =
    omega (arith, c.len.ensures.value, c.len-2.ensures.value, c.if-len.false) in
    let fits = fit_list seat.number seat.made seat.front front c.longer-both.result c.self.invariant.3 le both.this
    both.that in
    subst (λ (k : SeatView). IsPrefix k.list front × (k.made ≤ own k.number front)) c.self.view_is fits

pub returns-then-len-clause-fits : goal.returns-then-len-clause-fits
returns-then-len-clause-fits g c is = absurd (true≢false (sym is))

pub returns-then-len-clause-longer : goal.returns-then-len-clause-longer
returns-then-len-clause-longer g c _ =
    omega (
      arith,
      c.len.ensures.value,
      c.len-2.ensures.value,
      c.if-len.true,
      ap (λ (k : SeatView). length k.list) c.self.view_is,
    )

pub returns-clause-longer : goal.returns-clause-longer
returns-clause-longer g c is = absurd (true≢false is)
