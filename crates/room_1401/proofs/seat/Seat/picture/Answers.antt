-- The seat has then seen what the picture was taken after, and still has what it made among its own commands.
use Rattle.std.proofs.Common.{◌≡◌, ◌≤◌, List, length, ap, sym, ◌∙◌, subst, arith}
use mathlib.Core.List.{IsPrefix}
use Rattle.room_alone.specs.declared.entry.SeatedCommand.{SeatedCommand}
use Rattle.room_1401.specs.declared.picture.Picture.{Picture}
use Rattle.room_1401.specs.Picture.{picture_after}
use Rattle.room_1401.specs.Seen.{SeatView}
use Rattle.room_1401.proofs.SeenLemmas.{caught_up, own_longer}
use Rattle.room_1401.proofs.seat.Seat.picture.Goals as goal

pub invariant_of-self-2 : goal.invariant_of-self-2
invariant_of-self-2 g c =
    let i = c.self.invariant in
    let seat = c.self.inside in
    (i.0, i.1, i.2, own_longer seat.number seat.made seat.front c.longer.result i.3 c.longer.ensures.this)

pub returns-clause-grows : goal.returns-clause-grows
returns-clause-grows g c =
    subst (λ (seat : SeatView). IsPrefix seat.list c.longer.result) c.self.view_is c.longer.ensures.this

pub returns-clause-picture : goal.returns-clause-picture
returns-clause-picture g c =
    let seen = c.self.inside.front in
    let list = c.in-Some.found.front.log in
    let is = c.in-Some.ensures.1.1 in
    let after = ap (λ (picture : Picture). picture.after) is in
    let same = ap (λ (pairs : List SeatedCommand). length pairs) c.of_token-front.ensures in
    let le : length seen ≤ length c.of_token-front.result =
    omega (arith, c.len.ensures.value, c.if-found-len.false, after, same) in
    let all : c.longer.result ≡ list =
    caught_up seen c.of_token-front.result c.longer.result c.longer.ensures.is le c.longer.ensures.that
    ∙ c.of_token-front.ensures in
    is ∙ ap (λ (pairs : List SeatedCommand). picture_after g.J.RoomId.size pairs c.args.window) (sym all)
