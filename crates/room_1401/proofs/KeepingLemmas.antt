-- What is shown of a journal, by whether a write of its keeper has failed.
use Rattle.std.proofs.Common.{◌≡◌, ℕ, ◌-◌, Bool, true, false, List, [], ◌∷◌, ◌++◌, length, take, Option}
use Rattle.std.proofs.Common.{refl, ap, sym, ◌∙◌, subst, arith, true≢false}
use Rattle.std.specs.Prelude.{Result, Ok, Err, OnOk, is_ok}
use Rattle.std.proofs.lemmas.List.{length_push, take_all, take-append-le}
use Rattle.machine_commands.specs.declared.answer.Answer.{Answer}
use Rattle.machine_commands.specs.declared.command.Command.{Command}
use Rattle.room_alone.specs.declared.entry.Entry.{Entry}
use Rattle.room_alone.specs.declared.entry.SeatedCommand.{SeatedCommand}
use Rattle.room_alone.specs.Journal.{entry, pairs_of}
use Rattle.room_alone.specs.Kept.{Form, KeptAccount}
use Rattle.room_alone.specs.Replay.{pair}
use Rattle.room_1401.specs.Keeping.{AreShown, shown_by, shown_in}
use Rattle.room_alone.proofs.ReplayLemmas.{pairs_of-append}

-- while no write has failed, all of it
pub all_shown : (failed : Bool) (journal : List Entry) → failed ≡ false → shown_by failed journal ≡ pairs_of journal
all_shown failed journal good = ap (λ (bad : Bool). shown_by bad journal) good

but_last : {A : Type 0} (front : List A) (last : A) → take (length (front ++ last ∷ []) - 1) (front ++ last ∷ []) ≡ front
but_last front last =
    ap (λ n. take n (front ++ last ∷ [])) (omega (arith, length_push front last))
    ∙ take-append-le (length front) front (last ∷ []) (omega arith)
    ∙ take_all (length front) front (omega arith)

-- once one has, all but the last entry's command
pub last_unshown : (failed : Bool) (front now : List Entry) (last : Entry) → failed ≡ true → now ≡ front ++ last ∷ []
    → shown_by failed now ≡ pairs_of front
last_unshown failed front now last bad is =
    ap (λ (at : Bool). shown_by at now) bad
    ∙ ap (λ (journal : List Entry). pairs_of (take (length journal - 1) journal)) is
    ∙ ap pairs_of (but_last front last)

-- a refusal leaves what is shown
pub same_shown : (old new : KeptAccount) → new.room.journal ≡ old.room.journal → new.failed ≡ old.failed
    → shown_in new ≡ shown_in old
same_shown old new journal failed =
    ap (λ (bad : Bool). shown_by bad new.room.journal) failed
    ∙ ap (λ (entries : List Entry). shown_by old.failed entries) journal

-- so does an entry that isn't kept
pub still_shown : (old new : KeptAccount) (last : Entry) → old.failed ≡ false → new.failed ≡ true
    → new.room.journal ≡ old.room.journal ++ last ∷ []
    → shown_in new ≡ shown_in old
still_shown old new last good bad is =
    last_unshown new.failed old.room.journal new.room.journal last bad is
    ∙ sym (all_shown old.failed old.room.journal good)

-- one that is kept adds its command
pub more_shown : (old new : KeptAccount) (seat : ℕ) (command : Command) (answer : Answer)
    → old.failed ≡ false → new.failed ≡ false → new.room.journal ≡ old.room.journal ++ entry seat command answer ∷ []
    → shown_in new ≡ shown_in old ++ pair seat command ∷ []
more_shown old new seat command answer good still is =
    all_shown new.failed new.room.journal still
    ∙ ap pairs_of is
    ∙ pairs_of-append old.room.journal seat command answer
    ∙ ap (λ (list : List SeatedCommand). list ++ pair seat command ∷ []) (sym (all_shown old.failed old.room.journal good))

-- what a good write leaves is so once the write is said to be good
pub if_ok : {A E : Type 0} (P : Type 0) (result : Result A E) (kept : Bool) → kept ≡ is_ok result → OnOk result P
    → kept ≡ true → P
if_ok P (Ok done) kept is good said = good
if_ok P (Err why) kept is good said = absurd (true≢false (sym said ∙ is))

-- what is shown, by other names
pub shown_as : {S : Type 0} (has_failed : S → Bool) (kept : S → Option (List ℕ)) (first : Option (List ℕ)) (form : Form)
    (size : ℕ) (failed now : Bool) (pairs seen : List SeatedCommand)
    → AreShown has_failed kept first form size failed pairs → failed ≡ now → seen ≡ pairs → AreShown has_failed kept first form size now seen
shown_as has_failed kept first form size failed now pairs seen shown is same =
    subst (λ (list : List SeatedCommand). AreShown has_failed kept first form size now list) (sym same)
    (subst (λ (bad : Bool). AreShown has_failed kept first form size bad pairs) is shown)
