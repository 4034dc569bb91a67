-- Each card is a command more.
use Rattle.std.proofs.Common.{take, refl, subst, ◌∙◌}
use Rattle.std.proofs.lemmas.List.{take_all}
use Rattle.devices_1401.specs.declared.card.Card.{Card}
use Rattle.machine_commands.specs.declared.command.Command.TheVariants.{Feed}
use Rattle.program_rooms.specs.Beginning.{Gave, GaveAll, feed_commands}
use Rattle.program_rooms.proofs.BeginningLemmas.{gave_more, one_more}
use Rattle.program_rooms.proofs.beginning.feed_by.Goals as goal

pub loop-card-init : goal.loop-card-init
loop-card-init g c = record { number = refl; gave = refl }

pub loop-card-preserved : goal.loop-card-preserved
loop-card-preserved g c =
    let size = g.J.RoomId.size in
    let i = c.loop-card.card-index in
    let cards = c.args.cards.now in
    let card = c.card-item.result in
    let old = c.args.seat.now in
    let seat = c.loop-card.seat in
    let new = c.give.new.seat in
    let given = c.in_default.ensures in
    let last : Gave size (Feed card) seat new = record {
      number = given.number;
      made = given.made;
      answer = given.carried.0;
      carried = given.carried.1;
    } in
    record {
      number = given.number ∙ c.loop-card.invariant.number;
      gave = subst (λ commands. GaveAll size commands old new)
          (one_more (λ (it : Card). Feed it) cards cards i card refl c.loop-card-test.true c.card-item.is)
          (gave_more size (feed_commands (take i cards)) (Feed card) old seat new c.loop-card.invariant.gave last);
    }

pub returns-clause-gave : goal.returns-clause-gave
returns-clause-gave g c =
    subst (λ cards. GaveAll g.J.RoomId.size (feed_commands cards) c.args.seat.now c.loop-card.seat)
    (take_all c.loop-card.card-index c.args.cards.now c.loop-card-test.false) c.loop-card.invariant.gave
