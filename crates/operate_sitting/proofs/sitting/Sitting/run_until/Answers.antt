-- The room and its scout went as far as the test, whose second part has the cards in hand.
use Rattle.std.proofs.Common.{◌≡◌, ◌∙◌, ap}
use Rattle.room_alone.specs.Journal.{state_of}
use Rattle.operate_sitting.specs.Notes.{hand_of}
use Rattle.operate_sitting.specs.Sitting.{SittingAccount, machine_of, watching}
use Rattle.operate_sitting.proofs.sitting.Sitting.run_until.Goals as goal

pub returns-clause-search : goal.returns-clause-search
returns-clause-search g c =
    let room = c.self.inside.paired.room in
    let machine : state_of room.size room.journal ≡ machine_of c.args.self.now = ap machine_of c.self.view_is in
    let hand : c.watching-test.result ≡ watching (hand_of c.args.self.now.notes) =
    c.watching-test.ensures
    ∙ ap (λ (it : SittingAccount). watching (hand_of it.notes)) c.self.view_is in
    rw (hand, machine) at c.run_until.ensures.search

pub returns-clause-first : goal.returns-clause-first
returns-clause-first g c =
    let room = c.self.inside.paired.room in
    let machine : state_of room.size room.journal ≡ machine_of c.args.self.now = ap machine_of c.self.view_is in
    let hand : c.watching-test.result ≡ watching (hand_of c.args.self.now.notes) =
    c.watching-test.ensures
    ∙ ap (λ (it : SittingAccount). watching (hand_of it.notes)) c.self.view_is in
    rw (hand, machine) at c.run_until.ensures.first
