-- One command more of the seat's, which has seen all others.
use Rattle.std.proofs.Common.{◌≡◌, ◌+◌, ◌≤◌, ℕ, Bool, true, false, not, List, [], ◌∷◌, ◌++◌, length, length-append}
use Rattle.std.proofs.Common.{refl, ap, sym, ◌∙◌, subst, arith, true≢false}
use Rattle.std.specs.Prelude.{Err}
use Rattle.std.proofs.lemmas.Result.{err_from_is_err_and}
use mathlib.Core.List.{IsPrefix}
use Rattle.machine_commands.specs.declared.answer.Answer.{Answer}
use Rattle.machine_commands.specs.declared.command.Command.{Command}
use Rattle.room_alone.specs.Kept.{KeptAccount}
use Rattle.room_alone.specs.Journal.{entry, refusal_of}
use Rattle.room_alone.specs.Replay.{pair, reply_to}
use Rattle.room_alone.specs.declared.entry.SeatedCommand.{SeatedCommand}
use Rattle.room_1401.specs.Keeping.{shown_in}
use Rattle.room_1401.specs.Seen.{own}
use Rattle.room_1401.proofs.KeepingLemmas.{all_shown, more_shown, shown_as, still_shown}
use Rattle.room_1401.proofs.PrefixLemmas.{prefix_trans}
use Rattle.room_1401.proofs.RefusalLemmas.{not_refused, not_unread, read_full, read_kept, read_memory, reads}
use Rattle.room_1401.proofs.RefusalLemmas.{taken, unkept_there}
use Rattle.room_1401.proofs.SeenLemmas.{own_pushed}
use Rattle.room_1401.proofs.locked.LockedRoom.carry.Goals as goal

-- what is shown after one entry more that is kept, for a seat that had seen all of it
one_more : (old new : KeptAccount) (seat : ℕ) (command : Command) (answer : Answer) (seen front : List SeatedCommand)
    → seen ≡ shown_in old → old.failed ≡ false → new.failed ≡ false
    → new.room.journal ≡ old.room.journal ++ entry seat command answer ∷ [] → front ≡ shown_in new
    → front ≡ seen ++ pair seat command ∷ []
one_more old new seat command answer seen front same good still recorded is =
    is
    ∙ more_shown old new seat command answer good still recorded
    ∙ ap (λ (list : List SeatedCommand). list ++ pair seat command ∷ []) (sym same)

if_not : (test : Bool) → not test ≡ false → test ≡ true
if_not true is = refl
if_not false is = sym is

if_so : (test : Bool) → not test ≡ true → test ≡ false
if_so true is = sym is
if_so false is = refl

pub count_next-requires : goal.count_next-requires
count_next-requires g c =
    let seat = c.brief.new.seat in
    let k = c.number.result in
    let last : List SeatedCommand = pair k c.args.command ∷ [] in
    let old : KeptAccount = c.self.inside.recorder in
    let same : seat.list ≡ shown_in old = c.if-not-brief.ensures.list ∙ ap shown_in (sym c.self.view_is) in
    let grown : c.front-front.result.now ≡ seat.list ++ last =
    one_more old c.carry.new.self k c.args.command c.in_ok-carried.carried.answer seat.list c.front-front.result.now
    same c.in_ok-carried.ensures.good
    (c.in_ok-carried.ensures.kept (if_not c.in_ok-carried.carried.kept c.if-not-carried.false))
    c.in_ok-carried.ensures.recorded c.front-front.ensures.list in
    let few : seat.made ≤ own k seat.list =
    subst (λ n. seat.made ≤ own n seat.list) (sym c.number.ensures) c.if-not-brief.ensures.own in
    let more : own seat.number c.front-front.result.now ≡ own k seat.list + 1 =
    ap (λ n. own n c.front-front.result.now) (sym c.number.ensures)
    ∙ ap (own k) grown
    ∙ own_pushed k c.args.command seat.list in
    record {
      longer = omega (arith, ap length grown, length-append seat.list last);
      own = omega (arith, few, more);
    }

-- a seat that isn't briefed has learnt nothing, and had seen more than is shown
pub returns-then-not-brief-clause-no_reading : goal.returns-then-not-brief-clause-no_reading
returns-then-not-brief-clause-no_reading g c _ =
    let list = c.if-not-brief.ensures.list in (
      list.0,
      record {
        failed = c.args.self.now.failed;
        shown = shown_in c.args.self.now;
        are_shown = c.brief.ensures.shown;
        begins = subst (λ (seen : List SeatedCommand). IsPrefix (shown_in c.args.self.now) seen) list.0
            c.brief.ensures.begins;
        fewer = list.1;
      },
    )

-- an entry that isn't kept leaves what was shown, and the seat has seen that
pub returns-then-not-carried-clause-shown : goal.returns-then-not-carried-clause-shown
returns-then-not-carried-clause-shown g c =
    shown_as _ _ _ _ _ _ _ _ _ c.brief.ensures.shown
    (ap (λ (account : KeptAccount). account.failed) (sym c.self.view_is) ∙ c.in_ok-carried.ensures.good)
    c.if-not-brief.ensures.list

pub returns-then-not-carried-clause-list : goal.returns-then-not-carried-clause-list
returns-then-not-carried-clause-list g c =
    let old : KeptAccount = c.self.inside.recorder in
    let bad = c.in_ok-carried.ensures.unkept (if_so c.in_ok-carried.carried.kept c.if-not-carried.true) in
    c.if-not-brief.ensures.list
    ∙ ap shown_in (sym c.self.view_is)
    ∙ sym (still_shown old c.carry.new.self (entry c.number.result c.args.command c.in_ok-carried.carried.answer)
    c.in_ok-carried.ensures.good bad c.in_ok-carried.ensures.recorded)

pub returns-then-not-carried-clause-by_failure : goal.returns-then-not-carried-clause-by_failure
returns-then-not-carried-clause-by_failure g c is =
    let old : KeptAccount = c.self.inside.recorder in
    let bad = c.in_ok-carried.ensures.unkept is in
    let same : c.brief.new.seat.list ≡ shown_in c.carry.new.self =
    c.if-not-brief.ensures.list
    ∙ ap shown_in (sym c.self.view_is)
    ∙ sym (still_shown old c.carry.new.self (entry c.number.result c.args.command c.in_ok-carried.carried.answer)
    c.in_ok-carried.ensures.good bad c.in_ok-carried.ensures.recorded) in
    shown_as _ _ _ _ _ _ _ _ _ c.front-front.ensures.shown bad same

-- a kept entry is shown
pub returns-clause-shown : goal.returns-clause-shown
returns-clause-shown g c =
    shown_as _ _ _ _ _ _ _ _ _ c.front-front.ensures.shown
    (c.in_ok-carried.ensures.kept (if_not c.in_ok-carried.carried.kept c.if-not-carried.false))
    (c.count_next.ensures.list ∙ c.front-front.ensures.list)

pub returns-clause-by_failure : goal.returns-clause-by_failure
returns-clause-by_failure g c is =
    absurd (true≢false (sym (if_not c.in_ok-carried.carried.kept c.if-not-carried.false) ∙ is))

pub returns-clause-grows : goal.returns-clause-grows
returns-clause-grows g c =
    let seen : List SeatedCommand = c.brief.new.seat.list in
    let k = c.number.result in
    let last : List SeatedCommand = pair k c.args.command ∷ [] in
    let old : KeptAccount = c.self.inside.recorder in
    let still = c.in_ok-carried.ensures.kept (if_not c.in_ok-carried.carried.kept c.if-not-carried.false) in
    let grown : c.front-front.result.now ≡ seen ++ last =
    one_more old c.carry.new.self k c.args.command c.in_ok-carried.carried.answer seen c.front-front.result.now
    (c.if-not-brief.ensures.list ∙ ap shown_in (sym c.self.view_is)) c.in_ok-carried.ensures.good still
    c.in_ok-carried.ensures.recorded c.front-front.ensures.list in
    prefix_trans c.args.seat.now.list seen c.count_next.new.seat.list c.brief.ensures.grows
    (last, sym (c.count_next.ensures.list ∙ grown))

pub returns-clause-carried : goal.returns-clause-carried
returns-clause-carried g c _ =
    let seen : List SeatedCommand = c.brief.new.seat.list in
    let k = c.number.result in
    let old : KeptAccount = c.self.inside.recorder in
    let good = c.in_ok-carried.ensures.good in
    let still = c.in_ok-carried.ensures.kept (if_not c.in_ok-carried.carried.kept c.if-not-carried.false) in
    let same : seen ≡ shown_in old = c.if-not-brief.ensures.list ∙ ap shown_in (sym c.self.view_is) in
    let grown : c.front-front.result.now ≡ seen ++ pair k c.args.command ∷ [] =
    one_more old c.carry.new.self k c.args.command c.in_ok-carried.carried.answer seen c.front-front.result.now same
    good still c.in_ok-carried.ensures.recorded c.front-front.ensures.list in
    let is : k ≡ c.args.seat.now.number = c.number.ensures ∙ c.brief.ensures.same.0 in
    record {
      front = seen;
      begins = c.brief.ensures.grows;
      ends = c.count_next.ensures.list
          ∙ grown
          ∙ ap (λ (n : ℕ). seen ++ pair n c.args.command ∷ []) is;
      answered = c.in_ok-carried.ensures.answer
          ∙ ap (λ (list : List SeatedCommand). reply_to g.J.RoomId.size list c.args.command)
          (sym (same ∙ all_shown old.failed old.room.journal good));
    }

-- a refusal for no reading is for nothing else
pub returns-then-not-brief-clause-failed : goal.returns-then-not-brief-clause-failed
returns-then-not-brief-clause-failed g c apart = absurd (apart refl)

pub returns-then-not-brief-clause-after_failure : goal.returns-then-not-brief-clause-after_failure
returns-then-not-brief-clause-after_failure g c is = absurd (read_kept (not_unread _ _ refl is))

pub returns-then-not-brief-clause-fault : goal.returns-then-not-brief-clause-fault
returns-then-not-brief-clause-fault g c apart _ = absurd (apart refl)

pub returns-then-not-brief-clause-full : goal.returns-then-not-brief-clause-full
returns-then-not-brief-clause-full g c is = absurd (read_full (not_unread _ _ refl is))

pub returns-then-not-brief-clause-memory : goal.returns-then-not-brief-clause-memory
returns-then-not-brief-clause-memory g c is = absurd (read_memory (not_unread _ _ refl is))

-- a refusal of the recorder
pub returns-in_err-carried-clause-recorded : goal.returns-in_err-carried-clause-recorded
returns-in_err-carried-clause-recorded g c =
    let p = err_from_is_err_and c.from_residual.result c.from_residual.ensures.1 in
    rw (p.1) tt

pub returns-in_err-carried-clause-carried : goal.returns-in_err-carried-clause-carried
returns-in_err-carried-clause-carried g c =
    let p = err_from_is_err_and c.from_residual.result c.from_residual.ensures.1 in
    rw (p.1) tt

pub returns-in_err-carried-clause-made : goal.returns-in_err-carried-clause-made
returns-in_err-carried-clause-made g c =
    let p = err_from_is_err_and c.from_residual.result c.from_residual.ensures.1 in
    rw (p.1) tt

pub returns-in_err-carried-clause-kept : goal.returns-in_err-carried-clause-kept
returns-in_err-carried-clause-kept g c =
    let p = err_from_is_err_and c.from_residual.result c.from_residual.ensures.1 in
    rw (p.1) tt

pub returns-in_err-carried-clause-answered : goal.returns-in_err-carried-clause-answered
returns-in_err-carried-clause-answered g c =
    let p = err_from_is_err_and c.from_residual.result c.from_residual.ensures.1 in
    rw (p.1) tt

pub returns-in_err-carried-clause-same : goal.returns-in_err-carried-clause-same
returns-in_err-carried-clause-same g c =
    let p = err_from_is_err_and c.from_residual.result c.from_residual.ensures.1 in
    rw (p.1) tt

pub returns-in_err-carried-clause-unkept : goal.returns-in_err-carried-clause-unkept
returns-in_err-carried-clause-unkept g c =
    let p = err_from_is_err_and c.from_residual.result c.from_residual.ensures.1 in
    rw (p.1) tt

pub returns-in_err-carried-clause-by_failure : goal.returns-in_err-carried-clause-by_failure
returns-in_err-carried-clause-by_failure g c =
    let p = err_from_is_err_and c.from_residual.result c.from_residual.ensures.1 in
    rw (p.1) tt

pub returns-in_err-carried-clause-list : goal.returns-in_err-carried-clause-list
returns-in_err-carried-clause-list g c =
    let p = err_from_is_err_and c.from_residual.result c.from_residual.ensures.1 in
    rw (p.1) tt

pub returns-in_err-carried-clause-shown : goal.returns-in_err-carried-clause-shown
returns-in_err-carried-clause-shown g c =
    let p = err_from_is_err_and c.from_residual.result c.from_residual.ensures.1 in
    rw (p.1) tt

pub returns-in_err-carried-clause-err : goal.returns-in_err-carried-clause-err
returns-in_err-carried-clause-err g c =
    let p = err_from_is_err_and c.from_residual.result c.from_residual.ensures.1 in
    let same = c.in_err-carried.ensures.err in
    rw (p.1) (
      c.brief.ensures.same.1,
      same.0 ∙ ap (λ (it : KeptAccount). it.room.journal) c.self.view_is,
      same.1 ∙ ap (λ (it : KeptAccount). it.failed) c.self.view_is,
      same.2 ∙ ap (λ (it : KeptAccount). it.kept) c.self.view_is,
    )

pub returns-in_err-carried-clause-no_reading : goal.returns-in_err-carried-clause-no_reading
returns-in_err-carried-clause-no_reading g c unread =
    let p = err_from_is_err_and c.from_residual.result c.from_residual.ensures.1 in
    absurd (reads _ _ c.self.inside.recorder.room.journal c.self.inside.recorder.failed refl
    c.in_err-carried.ensures.failed c.in_err-carried.ensures.fault (sym (p.1 ∙ ap (λ f. Err f) p.2) ∙ unread))

pub returns-in_err-carried-clause-failed : goal.returns-in_err-carried-clause-failed
returns-in_err-carried-clause-failed g c _ =
    let p = err_from_is_err_and c.from_residual.result c.from_residual.ensures.1 in
    unkept_there _ _ _ _ (p.1 ∙ ap (λ f. Err f) p.2) (ap (λ (it : KeptAccount). it.failed) c.self.view_is)
    c.in_err-carried.ensures.failed

pub returns-in_err-carried-clause-after_failure : goal.returns-in_err-carried-clause-after_failure
returns-in_err-carried-clause-after_failure g c is =
    let p = err_from_is_err_and c.from_residual.result c.from_residual.ensures.1 in
    let iff = unkept_there _ _ _ _ (p.1 ∙ ap (λ f. Err f) p.2) (ap (λ (it : KeptAccount). it.failed) c.self.view_is)
    c.in_err-carried.ensures.failed in
    shown_as _ _ _ _ _ _ _ _ _ c.brief.ensures.shown (iff.0 is) c.if-not-brief.ensures.list

pub returns-in_err-carried-clause-fault : goal.returns-in_err-carried-clause-fault
returns-in_err-carried-clause-fault g c =
    let p = err_from_is_err_and c.from_residual.result c.from_residual.ensures.1 in
    rw (p.1) (λ _ good. (
      p.2
          ∙ c.in_err-carried.ensures.fault (ap (λ (it : KeptAccount). it.failed) c.self.view_is ∙ good)
          ∙ ap (λ (it : KeptAccount). refusal_of it.room.journal) c.self.view_is,
      c.if-not-brief.ensures.list,
    ))

-- a command that is taken isn't refused
pub returns-then-not-carried-clause-no_reading : goal.returns-then-not-carried-clause-no_reading
returns-then-not-carried-clause-no_reading g c is = absurd (not_refused _ _ _ refl is)

pub returns-then-not-carried-clause-after_failure : goal.returns-then-not-carried-clause-after_failure
returns-then-not-carried-clause-after_failure g c is = absurd (not_refused _ _ _ refl is)

pub returns-then-not-carried-clause-full : goal.returns-then-not-carried-clause-full
returns-then-not-carried-clause-full g c is = absurd (not_refused _ _ _ refl is)

pub returns-then-not-carried-clause-memory : goal.returns-then-not-carried-clause-memory
returns-then-not-carried-clause-memory g c is = absurd (not_refused _ _ _ refl is)

pub returns-then-not-carried-clause-failed : goal.returns-then-not-carried-clause-failed
returns-then-not-carried-clause-failed g c _ =
    let same = ap (λ (it : KeptAccount). it.failed) c.self.view_is in
    taken _ _ _ refl (sym same ∙ c.in_ok-carried.ensures.good)

pub returns-clause-no_reading : goal.returns-clause-no_reading
returns-clause-no_reading g c is = absurd (not_refused _ _ _ refl is)

pub returns-clause-after_failure : goal.returns-clause-after_failure
returns-clause-after_failure g c is = absurd (not_refused _ _ _ refl is)

pub returns-clause-full : goal.returns-clause-full
returns-clause-full g c is = absurd (not_refused _ _ _ refl is)

pub returns-clause-memory : goal.returns-clause-memory
returns-clause-memory g c is = absurd (not_refused _ _ _ refl is)

pub returns-clause-failed : goal.returns-clause-failed
returns-clause-failed g c _ =
    let same = ap (λ (it : KeptAccount). it.failed) c.self.view_is in
    taken _ _ _ refl (sym same ∙ c.in_ok-carried.ensures.good)
