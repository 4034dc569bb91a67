-- The journal explains the machine by one command more.
use Rattle.std.proofs.Common.{◌≡◌, ◌<◌, List, ◌++◌, ◌∷◌, [], length, sym, ◌∙◌, ap, subst, arith}
use Rattle.std.proofs.lemmas.Bool.Decides.{nat_tests}
use Rattle.room_alone.specs.declared.entry.Entry.{Entry}
use Rattle.room_alone.specs.Account.{Account, IsExplained}
use Rattle.room_alone.specs.Journal.{entry, most_entries}
use Rattle.room_alone.proofs.ReplayLemmas.{explained-append}
use Rattle.room_alone.proofs.room.Room.carry_reserved.Goals as goal

pub invariant_of-self : goal.invariant_of-self
invariant_of-self c =
    let journal : List Entry = c.self.inside.journal.items in
    let last : Entry = entry c.args.seat c.args.command c.carry_out-answer.result in
    let is = ap (λ (room : Account). room.journal) c.self.view_is in
    let few : length journal < most_entries = grind (arith, nat_tests, ap length is, c.requires.not_full) in
    let more : c.record.new.journal.items ≡ journal ++ last ∷ [] =
    c.record.ensures.items ∙ ap (λ (each : Entry). journal ++ each ∷ []) c.new.ensures in
    subst (λ (items : List Entry). IsExplained c.carry_out-answer.new.machine items) (sym more)
    (explained-append c.self.inside.machine c.carry_out-answer.new.machine c.args.seat journal c.args.command
    c.carry_out-answer.result c.self.invariant few c.carry_out-answer.ensures.state
    c.carry_out-answer.ensures.answer c.carry_out-answer.ensures.size)
