-- The journal explains the other machine by one command more.
use Rattle.std.proofs.Common.{◌≡◌, ◌<◌, List, ◌++◌, ◌∷◌, [], length, sym, ◌∙◌, ap, subst, arith}
use Rattle.std.proofs.lemmas.Bool.Decides.{nat_tests}
use Rattle.cpu_1401.specs.State.{State}
use Rattle.cpu_1401.specs.CarryOut.{carry_out}
use Rattle.room_alone.specs.declared.entry.Entry.{Entry}
use Rattle.room_alone.specs.Account.{Account, IsExplained}
use Rattle.room_alone.specs.Journal.{answer_to, entry, most_entries, state_of}
use Rattle.room_alone.proofs.ReplayLemmas.{explained-append}
use Rattle.room_alone.proofs.room.Room.take_over.Goals as goal

pub invariant_of-self : goal.invariant_of-self
invariant_of-self c =
    let old : State = c.self.inside.machine in
    let next : State = c.args.machine.now in
    let command = c.args.command in
    let journal : List Entry = c.self.inside.journal.items in
    let last : Entry = entry c.args.seat command c.args.answer in
    let view = c.self.view_is in
    let few : length journal < most_entries =
    grind (arith, nat_tests, ap (λ (room : Account). length room.journal) view, c.requires.not_full) in
    let machine : next ≡ (carry_out old command).state =
    subst (λ (room : Account). next ≡ (carry_out (state_of room.size room.journal) command).state) (sym view)
    c.requires.machine
    ∙ ap (λ (s : State). (carry_out s command).state) (sym c.self.invariant.machine_is) in
    let answer : c.args.answer ≡ (carry_out old command).answer =
    subst (λ (room : Account). c.args.answer ≡ answer_to room.size room.journal command) (sym view) c.requires.answer
    ∙ ap (λ (s : State). (carry_out s command).answer) (sym c.self.invariant.machine_is) in
    let size : length next.storage ≡ length old.storage =
    c.requires.size ∙ sym (ap (λ (room : Account). room.size) view) in
    let more : c.record.new.journal.items ≡ journal ++ last ∷ [] =
    c.record.ensures.items ∙ ap (λ (each : Entry). journal ++ each ∷ []) c.new.ensures in
    subst (λ (items : List Entry). IsExplained c.swap.new.x items) (sym more)
    (subst (λ (s : State). IsExplained s (journal ++ last ∷ [])) (sym c.swap.ensures.x_after)
    (explained-append old next c.args.seat journal command c.args.answer c.self.invariant few machine answer size))
