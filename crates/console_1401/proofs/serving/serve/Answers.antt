-- There are as many seats as the room has.
use Rattle.std.proofs.Common.{ℕ, arith, subst}
use Rattle.console_1401.specs.Served.{CountsConsoles}
use Rattle.console_1401.proofs.ServedLemmas.{length_all}
use Rattle.console_1401.proofs.serving.serve.Goals as goal

pub attend_seats-seats-requires-after_bounds : goal.attend_seats-seats-requires-after_bounds
attend_seats-seats-requires-after_bounds g c κs within =
    let all = length_all g.J.RoomId.seats c.args.seats.items c.requires.seats in
    (omega (arith, all, c.requires.count.0), omega (arith, all, c.requires.count.1))

pub returns-clause-consoles : goal.returns-clause-consoles
returns-clause-consoles g c =
    let consoles = c.attend_seats-seats.result in
    subst (λ (n : ℕ). CountsConsoles n consoles.count consoles.fault)
    (length_all g.J.RoomId.seats c.args.seats.items c.requires.seats) c.attend_seats-seats.ensures
