-- Once it is shown, the change leads to the replay of one command more.
use Rattle.std.proofs.Common.{◌≡◌, ap, sym, ◌∙◌, subst, arith, List, [], ◌∷◌, ◌++◌, length, drop, length-append}
use Rattle.std.specs.Prelude.{IfSome, Option}
use Rattle.cpu_1401.specs.State.{State}
use Rattle.room_alone.specs.Journal.{pairs_of}
use Rattle.room_alone.specs.Replay.{replay}
use Rattle.room_alone.specs.declared.entry.SeatedCommand.{SeatedCommand}
use Rattle.room_1401.specs.Rule.{Publishes}
use Rattle.room_1401.specs.declared.published.Change.{Change}
use Rattle.room_1401.proofs.PublishLemmas.{IsNext, follows, led_by, storage_of}
use Rattle.room_alone.proofs.ReplayLemmas.{length-pairs_of, pairs_of-append}
use Rattle.room_1401.proofs.recording.record.Goals as goal

pub carry_kept-carried-requires-clause-number : goal.carry_kept-carried-requires-clause-number
carry_kept-carried-requires-clause-number g c =
    let journal = c.args.room.now.journal in
    omega (
      arith,
      c.len.ensures.value,
      ap length c.requires.front,
      length-append (pairs_of journal) (c.args.next.now ∷ []),
      length-pairs_of journal,
    )

pub returns-clause-front : goal.returns-clause-front
returns-clause-front g c =
    let next = c.args.next.now in
    let journal = c.args.room.now.journal in
    c.requires.front
    ∙ sym (pairs_of-append journal next.seat next.command c.carry_kept-carried.result.answer)
    ∙ ap pairs_of (sym c.carry_kept-carried.ensures.recorded)

pub returns-clause-published : goal.returns-clause-published
returns-clause-published g c =
    let next = c.args.next.now in
    let pairs : List SeatedCommand = pairs_of c.args.room.now.journal in
    let more : List SeatedCommand = pairs ++ next ∷ [] in
    let room = c.carry_kept-carried.new.room in
    let recorded : pairs_of room.journal ≡ more =
    ap pairs_of c.carry_kept-carried.ensures.recorded
    ∙ pairs_of-append c.args.room.now.journal next.seat next.command c.carry_kept-carried.result.answer in
    let old = c.args.publisher.now.writer in
    let new = c.append.new.self.writer in
    let change : Change = c.change_to.result in
    let pending : List Change = drop old.behind old.log.items in
    let then : List Change = drop new.behind new.log.items in
    let book = g.J.RoomId.book in
    let size = g.J.RoomId.size in
    let is_next : IsNext book size change pairs next.seat next.command = record {
      of_command = c.change_to.ensures.command;
      outcome = subst (λ (outcome : Option State). IfSome outcome (λ machine. machine ≡ replay size more))
          (sym c.change_to.ensures.outcome)
          (led_by size c.args.room.now.size c.args.room.now.journal next c.run_ahead-ahead.result.1 c.requires.size
          c.run_ahead-ahead.ensures.outcome);
      count = c.change_to.ensures.count ∙ ap length (sym c.change_to.ensures.list);
      bound = c.change_to.ensures.bound;
      list = c.change_to.ensures.list ∙ c.requires.front;
      of_book = c.change_to.ensures.book;
      storage = storage_of size room.size c.machine-replayed.result.now (pairs_of room.journal) more
          c.machine-replayed.ensures.state c.machine-replayed.ensures.size
          (c.carry_kept-carried.ensures.size ∙ c.requires.size) recorded;
    } in
    subst (λ (list : List SeatedCommand). Publishes book size new.desk.shown.value then list) (sym recorded)
    (follows book size old.desk.shown.value new.desk.shown.value change pending then pairs next.seat next.command
    c.requires.published is_next c.append.ensures.shown c.in-Ok.ensures.ok)
