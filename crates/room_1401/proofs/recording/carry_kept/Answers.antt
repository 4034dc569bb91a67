-- The text that is kept has the entry's line, or breaks off in it.
use Rattle.std.proofs.Common.{◌≡◌, false, ap, sym, ◌∙◌, subst, arith, List, [], ◌∷◌, ◌++◌, length, length-append}
use Rattle.room_alone.specs.Kept.{IsKeptAs, LacksLast}
use Rattle.room_alone.specs.declared.entry.Entry.{Entry}
use Rattle.room_alone.proofs.KeptLemmas.{kept_or_broken}
use Rattle.room_1401.proofs.KeepingLemmas.{if_ok}
use Rattle.room_1401.proofs.recording.carry_kept.Goals as goal

pub returns-clause-text : goal.returns-clause-text
returns-clause-text g c =
    let form = g.K.Keeper.form in
    let first = g.K.Keeper.first in
    let room = c.args.room.now in
    let kept = g.K.Keeper.kept c.args.keeper.now in
    let keeps = g.K.Keeper.kept c.keep.new.self in
    let failed = g.K.Keeper.has_failed c.keep.new.self in
    let now : List Entry = c.move_on-answer.new.room.journal in
    let last : Entry = c.new-entry.result in
    let journal : now ≡ room.journal ++ last ∷ [] =
    c.move_on-answer.ensures.recorded ∙ ap (λ (e : Entry). room.journal ++ e ∷ []) (sym c.new-entry.ensures) in
    let number : c.args.number ≡ length now =
    omega (arith, c.requires.number, ap length journal, length-append room.journal (last ∷ [])) in
    let more : LacksLast form room.size now last first kept =
    record { front = room.journal; journal_is = journal; kept_is = c.requires.kept } in
    subst (λ n. IsKeptAs form n now failed first keeps) (sym c.move_on-answer.ensures.size)
    (kept_or_broken form room.size c.args.number now last first kept keeps failed c.keep.result more number
    c.keep.ensures.line c.keep.ensures.part c.keep.ensures.good c.keep.ensures.failed)

-- no write has failed, if the entry is kept
pub returns-clause-kept : goal.returns-clause-kept
returns-clause-kept g c is =
    if_ok (g.K.Keeper.has_failed c.keep.new.self ≡ false) c.keep.result c.is_ok-kept.result c.is_ok-kept.ensures.value
    c.keep.ensures.good is
