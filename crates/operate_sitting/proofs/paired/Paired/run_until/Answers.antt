-- The scout went by itself, and the room takes it over with the run that does the same.
use Rattle.std.proofs.Common.{◌≡◌, List, [], ◌∷◌, ◌++◌, ◌∙◌, ap, refl, sym}
use Rattle.cpu_1401.specs.State.{State}
use Rattle.machine_commands.specs.declared.answer.Answer.{Answer}
use Rattle.machine_commands.specs.declared.command.Command.TheVariants.{Run}
use Rattle.room_alone.specs.Journal.{entry, state_of}
use Rattle.room_alone.specs.Kept.{KeptAccount}
use Rattle.room_alone.specs.declared.entry.Entry.{Entry}
use Rattle.operate_sitting.specs.RunOf.{answer_of, run_of}
use Rattle.operate_sitting.specs.Search.{Searched, search}
use Rattle.operate_sitting.proofs.PairedLemmas.{DoesAlike, does_alike, scout_after}
use Rattle.operate_sitting.proofs.paired.Paired.run_until.Goals as goal

alike : (g : _) (c : goal.After-take_over-arg-2-1 g) → DoesAlike c.reserve.new.self.room.size
    c.reserve.new.self.room.journal c.run_limit-limit.result c.seek-found.new.scout c.seek-found.result
alike g c =
    let room = c.self.inside.room.room in
    does_alike g.row.T.Denot g.T.Test.seen g.T.Test.is_met c.args.most
    (g.T.Test.begun c.args.test.now c.self.inside.scout) c.seek-found.new.test
    room.size c.reserve.new.self.room.size room.journal c.reserve.new.self.room.journal
    c.self.inside.scout c.seek-found.new.scout c.seek-found.result c.run_limit-limit.result
    c.requires.some c.requires.most c.self.invariant c.seek-found.ensures.search c.run_limit-limit.ensures
    c.reserve.ensures.size c.reserve.ensures.journal

pub take_over-requires-clause-machine : goal.take_over-requires-clause-machine
take_over-requires-clause-machine g c = (alike g c).state

pub take_over-requires-clause-answer : goal.take_over-requires-clause-answer
take_over-requires-clause-answer g c = c.answer_of-answer.ensures ∙ (alike g c).answer

-- the machine that went is the one that the journal explains
there : (g : _) (c : goal.After-copy_from g)
    → c.seek-found.new.scout ≡ state_of c.take_over.new.self.room.size c.take_over.new.self.room.journal
there g c =
    let alike : DoesAlike c.reserve.new.self.room.size c.reserve.new.self.room.journal c.run_limit-limit.result
    c.seek-found.new.scout c.seek-found.result =
    let room = c.self.inside.room.room in
    does_alike g.row.T.Denot g.T.Test.seen g.T.Test.is_met c.args.most
    (g.T.Test.begun c.args.test.now c.self.inside.scout) c.seek-found.new.test
    room.size c.reserve.new.self.room.size room.journal c.reserve.new.self.room.journal
    c.self.inside.scout c.seek-found.new.scout c.seek-found.result c.run_limit-limit.result
    c.requires.some c.requires.most c.self.invariant c.seek-found.ensures.search c.run_limit-limit.ensures
    c.reserve.ensures.size c.reserve.ensures.journal in
    let before = c.reserve.new.self.room in
    let after = c.take_over.new.self.room in
    scout_after before.size after.size before.journal after.journal (Run c.run_limit-limit.result)
    c.answer_of-answer.result (state_of before.size before.journal) c.seek-found.new.scout refl alike.state
    c.in-Ok.ensures.recorded c.in-Ok.ensures.size

pub returns-clause-search : goal.returns-clause-search
returns-clause-search g c =
    let at : KeptAccount → State = λ kept. state_of kept.room.size kept.room.journal in
    let found : State → Searched g.row.T.Denot = λ s. record {
      state = s;
      memory = c.seek-found.new.test;
      found = c.seek-found.result;
    } in
    ap (λ s. search g.T.Test.seen g.T.Test.is_met c.args.most (g.T.Test.begun c.args.test.now s) s)
    (ap at (sym c.self.view_is) ∙ sym c.self.invariant)
    ∙ c.seek-found.ensures.search
    ∙ ap found (there g c)

pub returns-clause-recorded : goal.returns-clause-recorded
returns-clause-recorded g c =
    let found = c.seek-found.result in
    let before : c.reserve.new.self.room.journal ≡ c.args.self.now.room.journal =
    c.reserve.ensures.journal ∙ ap (λ (kept : KeptAccount). kept.room.journal) c.self.view_is in
    let answer : c.answer_of-answer.result
    ≡ answer_of found (state_of c.take_over.new.self.room.size c.take_over.new.self.room.journal) =
    c.answer_of-answer.ensures ∙ ap (λ (s : State). answer_of found s) (there g c) in
    c.in-Ok.ensures.recorded
    ∙ ap (λ (journal : List Entry). journal ++ entry 0 (Run c.run_limit-limit.result) c.answer_of-answer.result ∷ [])
    before
    ∙ ap (λ limit. c.args.self.now.room.journal ++ entry 0 (Run limit) c.answer_of-answer.result ∷ [])
    c.run_limit-limit.ensures
    ∙ ap (λ (a : Answer). c.args.self.now.room.journal ++ entry 0 (run_of found) a ∷ []) answer
