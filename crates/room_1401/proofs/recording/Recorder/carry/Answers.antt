-- One command more: what is published, and what is kept.
use Rattle.std.proofs.Common.{◌≡◌, Bool, true, false, not, List, [], ◌∷◌, ◌++◌, drop}
use Rattle.std.proofs.Common.{refl, ap, sym, ◌∙◌, subst, true≢false}
use Rattle.std.proofs.lemmas.Result.{err_from_is_err_and}
use Rattle.std.specs.Io.KnownBytes.{Appends}
use Rattle.room_alone.specs.Journal.{entry, is_full, pairs_of, refusal_of}
use Rattle.room_alone.specs.Kept.{IsKeptAs, KeptAccount, kept_text}
use Rattle.room_alone.specs.declared.entry.Entry.{Entry}
use Rattle.room_alone.specs.declared.entry.SeatedCommand.{SeatedCommand}
use Rattle.room_1401.specs.Keeping.{shown_by}
use Rattle.room_1401.specs.Rule.{Publishes}
use Rattle.room_1401.specs.declared.published.Shown.{Shown}
use Rattle.room_alone.proofs.KeptLemmas.{kept_before}
use Rattle.room_1401.proofs.KeepingLemmas.{all_shown, last_unshown}
use Rattle.room_1401.proofs.PublishLemmas.{published}
use Rattle.room_1401.proofs.RefusalLemmas.{memory_refused, refused, taken}
use Rattle.room_1401.proofs.recording.Recorder.carry.Goals as goal

pub reserve-requires : goal.reserve-requires
reserve-requires g c =
    let room = c.self.inside.room in
    let failed = g.K.Keeper.has_failed c.self.inside.keeper in
    c.self.invariant.1 ∙ all_shown failed room.journal (sym c.has_failed.ensures ∙ c.if-has_failed.false)

pub record-requires : goal.record-requires
record-requires g c =
    let room = c.self.inside.room in
    let now = c.reserve.new.room in
    let journal : now.journal ≡ room.journal = c.reserve.ensures.room.0 in
    let size : now.size ≡ room.size = c.reserve.ensures.room.1 in
    let writer = c.self.inside.publisher.writer in
    let pending = drop writer.behind writer.log.items in
    let form = g.K.Keeper.form in
    let first = g.K.Keeper.first in
    let kept = g.K.Keeper.kept c.self.inside.keeper in
    let failed = g.K.Keeper.has_failed c.self.inside.keeper in
    let good : failed ≡ false = sym c.has_failed.ensures ∙ c.if-has_failed.false in
    let text : Appends first kept (kept_text form room.size room.journal) =
    kept_before form room.size room.journal failed first kept c.self.invariant.4 good in
    let all : c.self.inside.front ≡ pairs_of now.journal =
    c.self.invariant.1 ∙ all_shown failed room.journal good ∙ ap pairs_of (sym journal) in
    record {
      size = size ∙ c.self.invariant.0;
      spare = c.in_ok-front.ensures.spare;
      not_full = ap is_full journal ∙ c.in_ok-front.ensures.not_full;
      front = c.in_ok-front.ensures.front
          ∙ ap (λ (list : List SeatedCommand). list ++ c.new-next.result ∷ []) all;
      published = subst (λ (list : List SeatedCommand). Publishes g.J.RoomId.book g.J.RoomId.size
          writer.desk.shown.value pending list) all (c.self.invariant.3 good);
      good = good;
      kept = subst (λ n. Appends first kept (kept_text form n now.journal)) (sym size)
          (subst (λ (entries : List Entry). Appends first kept (kept_text form room.size entries)) (sym journal) text);
    }

pub show-requires : goal.show-requires
show-requires g c = c.record.ensures.published.follows

-- a write that had failed
pub returns-then-has_failed-clause-failed : goal.returns-then-has_failed-clause-failed
returns-then-has_failed-clause-failed g c = (
  λ _. sym (ap (λ (it : KeptAccount). it.failed) c.self.view_is) ∙ (sym c.has_failed.ensures ∙ c.if-has_failed.true),
  λ _. refl,
)

pub returns-then-has_failed-clause-fault : goal.returns-then-has_failed-clause-fault
returns-then-has_failed-clause-fault g c good =
    let same = ap (λ (it : KeptAccount). it.failed) c.self.view_is in
    absurd (true≢false (sym c.if-has_failed.true ∙ (c.has_failed.ensures ∙ (same ∙ good))))

-- a refusal by the journal
pub invariant_of-self : goal.invariant_of-self
invariant_of-self g c =
    let i = c.self.invariant in
    let old = c.self.inside.room in
    let now = c.reserve.new.room in
    let room = c.reserve.ensures.room in
    let failed = g.K.Keeper.has_failed c.self.inside.keeper in
    let kept = g.K.Keeper.kept c.self.inside.keeper in
    let form = g.K.Keeper.form in
    let first = g.K.Keeper.first in (
      room.1 ∙ i.0,
      i.1 ∙ ap (shown_by failed) (sym room.0),
      i.2,
      i.3,
      subst (λ n. IsKeptAs form n now.journal failed first kept) (sym room.1)
          (subst (λ (journal : List Entry). IsKeptAs form old.size journal failed first kept) (sym room.0) i.4),
    )

pub returns-in_err-front-clause-answer : goal.returns-in_err-front-clause-answer
returns-in_err-front-clause-answer g c =
    let p = err_from_is_err_and c.from_residual.result c.from_residual.ensures.1 in
    rw (p.1) tt

pub returns-in_err-front-clause-recorded : goal.returns-in_err-front-clause-recorded
returns-in_err-front-clause-recorded g c =
    let p = err_from_is_err_and c.from_residual.result c.from_residual.ensures.1 in
    rw (p.1) tt

pub returns-in_err-front-clause-kept : goal.returns-in_err-front-clause-kept
returns-in_err-front-clause-kept g c =
    let p = err_from_is_err_and c.from_residual.result c.from_residual.ensures.1 in
    rw (p.1) tt

pub returns-in_err-front-clause-unkept : goal.returns-in_err-front-clause-unkept
returns-in_err-front-clause-unkept g c =
    let p = err_from_is_err_and c.from_residual.result c.from_residual.ensures.1 in
    rw (p.1) tt

pub returns-in_err-front-clause-good : goal.returns-in_err-front-clause-good
returns-in_err-front-clause-good g c =
    let p = err_from_is_err_and c.from_residual.result c.from_residual.ensures.1 in
    rw (p.1) tt

pub returns-in_err-front-clause-failed : goal.returns-in_err-front-clause-failed
returns-in_err-front-clause-failed g c =
    let p = err_from_is_err_and c.from_residual.result c.from_residual.ensures.1 in
    let why = c.in_err-front.ensures.fault in
    let same = ap (λ (it : KeptAccount). it.failed) c.self.view_is in
    refused c.from_residual.result p.0 c.self.inside.room.journal c.args.self.now.failed p.1
    (p.2 ∙ why) (sym same ∙ (sym c.has_failed.ensures ∙ c.if-has_failed.false))

pub returns-in_err-front-clause-fault : goal.returns-in_err-front-clause-fault
returns-in_err-front-clause-fault g c =
    let p = err_from_is_err_and c.from_residual.result c.from_residual.ensures.1 in
    let why = c.in_err-front.ensures.fault in
    rw (p.1) (λ _. p.2 ∙ (why ∙ ap (λ (it : KeptAccount). refusal_of it.room.journal) c.self.view_is))

pub returns-in_err-front-clause-err : goal.returns-in_err-front-clause-err
returns-in_err-front-clause-err g c =
    let p = err_from_is_err_and c.from_residual.result c.from_residual.ensures.1 in
    rw (p.1) (
      c.reserve.ensures.room.0 ∙ ap (λ (it : KeptAccount). it.room.journal) c.self.view_is,
      ap (λ (it : KeptAccount). it.failed) c.self.view_is,
      ap (λ (it : KeptAccount). it.kept) c.self.view_is,
    )

-- a refusal before the machine moves
pub invariant_of-self-in_err-carried : goal.invariant_of-self-in_err-carried
invariant_of-self-in_err-carried g c =
    let i = c.self.invariant in
    let now = c.record.new.room in
    let same = c.in_err-carried.ensures.err in
    let journal : now.journal ≡ c.self.inside.room.journal = same.0 ∙ c.reserve.ensures.room.0 in
    let failed = g.K.Keeper.has_failed c.record.new.keeper in
    let list : c.self.inside.front ≡ shown_by failed now.journal =
    i.1
    ∙ ap (shown_by (g.K.Keeper.has_failed c.self.inside.keeper)) (sym journal)
    ∙ ap (λ keeper. shown_by (g.K.Keeper.has_failed keeper) now.journal) (sym same.1) in
    let writer = c.record.new.publisher.writer in
    let pending = drop writer.behind writer.log.items in (
      c.record.ensures.size,
      list,
      ap (λ (shown : Shown). shown.front.log) c.record.ensures.shown ∙ i.2,
      λ good. subst (λ (pairs : List SeatedCommand). Publishes g.J.RoomId.book g.J.RoomId.size
          writer.desk.shown.value pending pairs) (sym (list ∙ all_shown failed now.journal good))
          c.record.ensures.published,
      c.record.ensures.text,
    )

pub returns-in_err-carried-clause-answer : goal.returns-in_err-carried-clause-answer
returns-in_err-carried-clause-answer g c =
    let p = err_from_is_err_and c.from_residual-in_err-carried.result c.from_residual-in_err-carried.ensures.1 in
    rw (p.1) tt

pub returns-in_err-carried-clause-recorded : goal.returns-in_err-carried-clause-recorded
returns-in_err-carried-clause-recorded g c =
    let p = err_from_is_err_and c.from_residual-in_err-carried.result c.from_residual-in_err-carried.ensures.1 in
    rw (p.1) tt

pub returns-in_err-carried-clause-kept : goal.returns-in_err-carried-clause-kept
returns-in_err-carried-clause-kept g c =
    let p = err_from_is_err_and c.from_residual-in_err-carried.result c.from_residual-in_err-carried.ensures.1 in
    rw (p.1) tt

pub returns-in_err-carried-clause-unkept : goal.returns-in_err-carried-clause-unkept
returns-in_err-carried-clause-unkept g c =
    let p = err_from_is_err_and c.from_residual-in_err-carried.result c.from_residual-in_err-carried.ensures.1 in
    rw (p.1) tt

pub returns-in_err-carried-clause-good : goal.returns-in_err-carried-clause-good
returns-in_err-carried-clause-good g c =
    let p = err_from_is_err_and c.from_residual-in_err-carried.result c.from_residual-in_err-carried.ensures.1 in
    rw (p.1) tt

pub returns-in_err-carried-clause-failed : goal.returns-in_err-carried-clause-failed
returns-in_err-carried-clause-failed g c =
    let p = err_from_is_err_and c.from_residual-in_err-carried.result c.from_residual-in_err-carried.ensures.1 in
    let why = memory_refused _ _ c.self.inside.room.journal refl c.in_err-carried.ensures.memory
    c.in_ok-front.ensures.not_full in
    let same = ap (λ (it : KeptAccount). it.failed) c.self.view_is in
    refused c.from_residual-in_err-carried.result p.0 c.self.inside.room.journal c.args.self.now.failed p.1
    (p.2 ∙ why) (sym same ∙ (sym c.has_failed.ensures ∙ c.if-has_failed.false))

pub returns-in_err-carried-clause-fault : goal.returns-in_err-carried-clause-fault
returns-in_err-carried-clause-fault g c =
    let p = err_from_is_err_and c.from_residual-in_err-carried.result c.from_residual-in_err-carried.ensures.1 in
    let why = memory_refused _ _ c.self.inside.room.journal refl c.in_err-carried.ensures.memory
    c.in_ok-front.ensures.not_full in
    rw (p.1) (λ _. p.2 ∙ (why ∙ ap (λ (it : KeptAccount). refusal_of it.room.journal) c.self.view_is))

pub returns-in_err-carried-clause-err : goal.returns-in_err-carried-clause-err
returns-in_err-carried-clause-err g c =
    let p = err_from_is_err_and c.from_residual-in_err-carried.result c.from_residual-in_err-carried.ensures.1 in
    rw (p.1) (
      c.in_err-carried.ensures.err.0
          ∙ (c.reserve.ensures.room.0 ∙ ap (λ (it : KeptAccount). it.room.journal) c.self.view_is),
      ap g.K.Keeper.has_failed c.in_err-carried.ensures.err.1 ∙ ap (λ (it : KeptAccount). it.failed) c.self.view_is,
      ap g.K.Keeper.kept c.in_err-carried.ensures.err.1 ∙ ap (λ (it : KeptAccount). it.kept) c.self.view_is,
    )

-- an entry that isn't kept
if_so : (test : Bool) → not test ≡ true → test ≡ false
if_so true is = sym is
if_so false is = refl

if_not : (test : Bool) → not test ≡ false → test ≡ true
if_not true is = refl
if_not false is = sym is

pub invariant_of-self-then-not-carried : goal.invariant_of-self-then-not-carried
invariant_of-self-then-not-carried g c =
    let i = c.self.invariant in
    let old = c.self.inside.room in
    let now = c.record.new.room in
    let good : g.K.Keeper.has_failed c.self.inside.keeper ≡ false = sym c.has_failed.ensures ∙ c.if-has_failed.false in
    let bad : g.K.Keeper.has_failed c.record.new.keeper ≡ true =
    c.in_ok-carried.ensures.unkept (if_so c.in_ok-carried.carried.kept c.if-not-carried.true) in
    let last : Entry = entry c.new-next.result.seat c.new-next.result.command c.in_ok-carried.carried.answer in
    let journal : now.journal ≡ old.journal ++ last ∷ [] =
    c.in_ok-carried.ensures.recorded ∙ ap (λ (entries : List Entry). entries ++ last ∷ []) c.reserve.ensures.room.0 in (
      c.record.ensures.size,
      i.1
          ∙ all_shown _ old.journal good
          ∙ sym (last_unshown _ old.journal now.journal last bad journal),
      ap (λ (shown : Shown). shown.front.log) c.record.ensures.shown ∙ i.2,
      λ still. absurd (true≢false (sym bad ∙ still)),
      c.record.ensures.text,
    )

-- an entry that the keeper took
pub invariant_of-self-2 : goal.invariant_of-self-2
invariant_of-self-2 g c =
    let now = c.record.new.room in
    let failed = g.K.Keeper.has_failed c.record.new.keeper in
    let still : failed ≡ false =
    c.in_ok-carried.ensures.kept (if_not c.in_ok-carried.carried.kept c.if-not-carried.false) in
    let list = c.in_ok-carried.ensures.front in
    let before = c.record.new.publisher.writer in
    let after = c.show.new.self.writer in
    let was = c.record.ensures.published in (
      c.record.ensures.size,
      list ∙ sym (all_shown failed now.journal still),
      ap (λ (shown : Shown). shown.front.log) c.show.ensures.shown ∙ (was.list ∙ sym list),
      λ _. subst (λ (pairs : List SeatedCommand). Publishes g.J.RoomId.book g.J.RoomId.size
          after.desk.shown.value (drop after.behind after.log.items) pairs) (sym list)
          (published g.J.RoomId.book g.J.RoomId.size before.desk.shown.value after.desk.shown.value
          (drop before.behind before.log.items) (drop after.behind after.log.items) (pairs_of now.journal) was
          c.show.ensures.shown c.show.ensures.pending),
      c.record.ensures.text,
    )

pub returns-then-not-carried-clause-failed : goal.returns-then-not-carried-clause-failed
returns-then-not-carried-clause-failed g c =
    let same = ap (λ (it : KeptAccount). it.failed) c.self.view_is in
    taken _ _ _ refl (sym same ∙ (sym c.has_failed.ensures ∙ c.if-has_failed.false))

pub returns-clause-failed : goal.returns-clause-failed
returns-clause-failed g c =
    let same = ap (λ (it : KeptAccount). it.failed) c.self.view_is in
    taken _ _ _ refl (sym same ∙ (sym c.has_failed.ensures ∙ c.if-has_failed.false))
