-- What has failed by the end of lines.
use Rattle.std.proofs.Common.{◌≡◌, ℕ, Bool, true, false, not, ◌||◌, ◌&&◌, List, [], ◌∷◌}
use Rattle.std.proofs.Common.{Option, None, Some, Result, Ok, Err}
use Rattle.std.proofs.Common.{refl, sym, ◌∙◌, ap, subst, inl, inr, if◌then◌else◌, true≢false}
use Rattle.std.specs.Io.KnownBytes.{IsAtEnd}
use Rattle.machine_commands.specs.declared.fault.RoomFault.{RoomFault}
use Rattle.machine_commands.specs.declared.fault.RoomFault.TheVariants as room
use Rattle.operate_sitting.specs.declared.sitting.Tended.{Tended}
use Rattle.operate_console.specs.Ends.{LastShown, SourceLeft, failure_in, heard_so, is_at_end, is_read, is_unkept}
use Rattle.operate_console.specs.Ends.{is_unkept_fault, is_write, source_so}
use Rattle.operate_console.specs.Run.{NotebookAccount, read_on}
use Rattle.operate_console.specs.declared.ends.Failure.{Failure}
use Rattle.operate_console.specs.declared.ends.Failure.TheVariants as failure
use Rattle.operate_console.specs.declared.ends.OperateEnd.{OperateEnd}
use Rattle.operate_console.specs.declared.ends.OperateEnd.TheVariants as end
use Rattle.room_alone.specs.Journal.{is_full, refusal_of}
use Rattle.room_alone.specs.declared.entry.Entry.{Entry}

-- no byte is left
pub at_end : (left : Option (List ℕ)) → IsAtEnd left → is_at_end left ≡ true
at_end None is = refl
at_end (Some []) is = refl
at_end (Some (byte ∷ more)) is = absurd cc

-- a room that takes no command more for its journal or for memory has no failed write
kept_if : (full : Bool) → is_unkept_fault (if full then room.JournalFull else room.Memory) ≡ false
kept_if true = refl
kept_if false = refl

pub not_unkept : (fault : RoomFault) (journal : List Entry) (failed failed' : Bool)
    → (failed ≡ false → fault ≡ refusal_of journal) → failed ≡ false → failed' ≡ failed
    → failed' ≡ is_unkept_fault fault
not_unkept fault journal failed failed' why good same =
    same ∙ good ∙ sym (ap is_unkept_fault (why good) ∙ kept_if (is_full journal))

-- the same of what devices want
abbrev refused_tend : RoomFault → Result Tended RoomFault
refused_tend fault = Err fault

pub still_kept : (fault : RoomFault) (failed failed' : Bool)
    → (refused_tend fault ≡ Err room.Unkept → failed ≡ true) → failed ≡ false → failed' ≡ false
    → failed' ≡ is_unkept_fault fault
still_kept room.Memory failed failed' why good now = now
still_kept room.JournalFull failed failed' why good now = now
still_kept room.NoReading failed failed' why good now = now
still_kept room.Unkept failed failed' why good now = now ∙ sym good ∙ why refl

-- a source that hasn't failed
pub source_good : (has_ended has_failed : Bool) (left : Option (List ℕ))
    → source_so false has_ended has_failed left ≡ true → has_failed ≡ false
source_good has_ended false left so = refl
source_good has_ended true left so = absurd cc

-- nothing was read
pub source_same : (has_ended has_ended' has_failed : Bool) (left : Option (List ℕ))
    → source_so false has_ended has_failed left ≡ true → has_ended' ≡ has_ended
    → source_so false has_ended' has_failed left ≡ true
source_same has_ended has_ended' has_failed left so same =
    subst (λ (it : Bool). source_so false it has_failed left ≡ true) (sym same) so

pub source_by : (why : Option Failure) (has_ended has_ended' has_failed : Bool) (left : Option (List ℕ))
    → source_so false has_ended has_failed left ≡ true → has_ended' ≡ has_ended → is_read why ≡ false
    → source_so (is_read why) has_ended' has_failed left ≡ true
source_by why has_ended has_ended' has_failed left so same unread =
    subst (λ (it : Bool). source_so it has_ended' has_failed left ≡ true) (sym unread)
    (source_same has_ended has_ended' has_failed left so same)

pub ruleset source_unread = (source_same, source_by)

-- a read failed, or something else after it
failed_by : (failed has_failed : Bool) (left : Option (List ℕ))
    → has_failed ≡ failed → source_so failed false has_failed left ≡ true
failed_by true has_failed left is = is
failed_by false has_failed left is = ap (λ (it : Bool). not it && true) is

pub source_failed : (why : Option Failure) (has_ended has_failed : Bool) (left : Option (List ℕ))
    → has_ended ≡ false → has_failed ≡ is_read why → source_so (is_read why) has_ended has_failed left ≡ true
source_failed why has_ended has_failed left unended is =
    subst (λ (it : Bool). source_so (is_read why) it has_failed left ≡ true) (sym unended)
    (failed_by (is_read why) has_failed left is)

-- something was typed, or the input ended
typed_so : (last has_failed : Bool) (left : Option (List ℕ))
    → has_failed ≡ false → (last ≡ true → is_at_end left ≡ true)
    → source_so false (last || false) has_failed left ≡ true
typed_so true has_failed left good ended =
    ap (λ (it : Bool). not it && is_at_end left) good ∙ ended refl
typed_so false has_failed left good ended = ap (λ (it : Bool). not it && true) good

pub heard_typed : (has_ended ended last has_failed : Bool) (left : Option (List ℕ))
    → ended ≡ (last || has_ended) → has_ended ≡ false → has_failed ≡ false
    → (last ≡ true → is_at_end left ≡ true) → source_so false ended has_failed left ≡ true
heard_typed has_ended ended last has_failed left is unended good at_its_end =
    subst (λ (it : Bool). source_so false it has_failed left ≡ true)
    (sym (is ∙ ap (λ (it : Bool). last || it) unended)) (typed_so last has_failed left good at_its_end)

pub source_typed : (new old : NotebookAccount) (last has_failed : Bool) (left : Option (List ℕ))
    → new ≡ read_on (last || old.has_ended) old → old.has_ended ≡ false → has_failed ≡ false
    → (last ≡ true → is_at_end left ≡ true) → source_so false new.has_ended has_failed left ≡ true
source_typed new old last has_failed left noted unended good at_its_end =
    heard_typed old.has_ended new.has_ended last has_failed left (ap (λ (it : NotebookAccount). it.has_ended) noted)
    unended good at_its_end

ended_if : (ended last : Bool) → last ≡ true → (last || ended) ≡ true
ended_if ended last is = ap (λ (it : Bool). it || ended) is

pub ended_typed : (new old : NotebookAccount) (none last : Bool)
    → new ≡ read_on (last || old.has_ended) old → (none ≡ true → last ≡ true) → none ≡ true → new.has_ended ≡ true
ended_typed new old none last noted so is =
    ap (λ (it : NotebookAccount). it.has_ended) noted ∙ ended_if old.has_ended last (so is)

-- a read failed while somebody listened
pub heard_failed : (why : Failure) (has_ended has_failed : Bool) (left : Option (List ℕ))
    → has_ended ≡ false → has_failed ≡ is_read (Some why) → is_write (Some why) ≡ false → is_unkept (Some why) ≡ false
    → heard_so (Some why) has_ended has_failed left ≡ true
heard_failed failure.Read has_ended has_failed left unended is unwritten kept = is
heard_failed failure.Write has_ended has_failed left unended is unwritten kept = absurd cc
heard_failed failure.Bound has_ended has_failed left unended is unwritten kept =
    source_failed (Some failure.Bound) has_ended has_failed left unended is
heard_failed failure.Memory has_ended has_failed left unended is unwritten kept =
    source_failed (Some failure.Memory) has_ended has_failed left unended is
heard_failed failure.Unkept has_ended has_failed left unended is unwritten kept = absurd cc

pub heard_source : (why : Option Failure) (has_ended has_failed : Bool) (left : Option (List ℕ))
    → heard_so why has_ended has_failed left ≡ true → source_so (is_read why) has_ended has_failed left ≡ true
heard_source None has_ended has_failed left heard = heard
heard_source (Some failure.Read) has_ended has_failed left heard = heard
heard_source (Some failure.Write) has_ended has_failed left heard = absurd cc
heard_source (Some failure.Bound) has_ended has_failed left heard = heard
heard_source (Some failure.Memory) has_ended has_failed left heard = heard
heard_source (Some failure.Unkept) has_ended has_failed left heard = absurd cc

pub heard_unwritten : (why : Option Failure) (has_ended has_failed : Bool) (left : Option (List ℕ))
    → heard_so why has_ended has_failed left ≡ true → is_write why ≡ false
heard_unwritten None has_ended has_failed left heard = refl
heard_unwritten (Some failure.Read) has_ended has_failed left heard = refl
heard_unwritten (Some failure.Write) has_ended has_failed left heard = absurd cc
heard_unwritten (Some failure.Bound) has_ended has_failed left heard = refl
heard_unwritten (Some failure.Memory) has_ended has_failed left heard = refl
heard_unwritten (Some failure.Unkept) has_ended has_failed left heard = refl

pub heard_sink : (why : Option Failure) (has_ended has_failed : Bool) (left : Option (List ℕ)) (sink : Bool)
    → heard_so why has_ended has_failed left ≡ true → sink ≡ false → sink ≡ is_write why
heard_sink why has_ended has_failed left sink heard good =
    good ∙ sym (heard_unwritten why has_ended has_failed left heard)

pub heard_kept : (why : Option Failure) (has_ended has_failed : Bool) (left : Option (List ℕ))
    → heard_so why has_ended has_failed left ≡ true → is_unkept why ≡ false
heard_kept None has_ended has_failed left heard = refl
heard_kept (Some failure.Read) has_ended has_failed left heard = refl
heard_kept (Some failure.Write) has_ended has_failed left heard = refl
heard_kept (Some failure.Bound) has_ended has_failed left heard = refl
heard_kept (Some failure.Memory) has_ended has_failed left heard = refl
heard_kept (Some failure.Unkept) has_ended has_failed left heard = absurd cc

pub ruleset heard_so_far = (heard_source, heard_sink, heard_kept)

-- the same after a person was heard
pub heard_on : (why : Option Failure) (has_ended has_failed : Bool) (left : Option (List ℕ))
    → why ≡ None → heard_so why has_ended has_failed left ≡ true → source_so false has_ended has_failed left ≡ true
heard_on why has_ended has_failed left is heard =
    subst (λ (it : Option Failure). heard_so it has_ended has_failed left ≡ true) is heard

pub heard_end : (why : Option Failure) (end : Failure) (has_ended has_failed : Bool) (left : Option (List ℕ))
    → why ≡ Some end → heard_so why has_ended has_failed left ≡ true
    → source_so (is_read (Some end)) has_ended has_failed left ≡ true
heard_end why end has_ended has_failed left is heard =
    heard_source (Some end) has_ended has_failed left
    (subst (λ (it : Option Failure). heard_so it has_ended has_failed left ≡ true) is heard)

pub end_unwritten : (why : Option Failure) (end : Failure) (has_ended has_failed : Bool) (left : Option (List ℕ))
    → why ≡ Some end → heard_so why has_ended has_failed left ≡ true → is_write (Some end) ≡ false
end_unwritten why end has_ended has_failed left is heard =
    heard_unwritten (Some end) has_ended has_failed left
    (subst (λ (it : Option Failure). heard_so it has_ended has_failed left ≡ true) is heard)

pub end_kept : (why : Option Failure) (end : Failure) (has_ended has_failed : Bool) (left : Option (List ℕ))
    → why ≡ Some end → heard_so why has_ended has_failed left ≡ true → is_unkept (Some end) ≡ false
end_kept why end has_ended has_failed left is heard =
    heard_kept (Some end) has_ended has_failed left
    (subst (λ (it : Option Failure). heard_so it has_ended has_failed left ≡ true) is heard)

pub ruleset heard_all = (heard_on, heard_end, end_unwritten, end_kept)

-- what is noted after a read
pub noted_same : (it : NotebookAccount) → it ≡ read_on it.has_ended it
noted_same it = refl

pub noted_typed : (new old : NotebookAccount) (ended : Bool)
    → new ≡ read_on ended old → new ≡ read_on new.has_ended old
noted_typed new old ended is =
    is ∙ ap (λ (it : Bool). read_on it old) (sym (ap (λ (it : NotebookAccount). it.has_ended) is))

pub noted_plain : (new old : NotebookAccount) → new ≡ old → new ≡ read_on old.has_ended old
noted_plain new old is = is

pub noted_still : (new old : NotebookAccount) → new ≡ old → new ≡ read_on new.has_ended old
noted_still new old is = ap (read_on new.has_ended) is

pub noted_later : (new middle old : NotebookAccount)
    → new ≡ middle → middle ≡ read_on middle.has_ended old → new ≡ read_on new.has_ended old
noted_later new middle old is first = noted_typed new old middle.has_ended (is ∙ first)

pub noted_first : (new middle old : NotebookAccount)
    → new ≡ read_on new.has_ended middle → middle ≡ old → new ≡ read_on new.has_ended old
noted_first new middle old is same = is ∙ ap (read_on new.has_ended) same

pub noted_twice : (new middle old : NotebookAccount)
    → new ≡ read_on new.has_ended middle → middle ≡ read_on middle.has_ended old → new ≡ read_on new.has_ended old
noted_twice new middle old is first = is ∙ ap (read_on new.has_ended) first

pub ruleset noted_on = (noted_same, noted_still, noted_later, noted_first, noted_twice)

-- what lines that ended so leave of their source
pub source_ended : (ended has_failed : Bool) (left : Option (List ℕ))
    → ended ≡ true → source_so false ended has_failed left ≡ true → SourceLeft end.EndOfInput has_failed left
source_ended ended has_failed left is so =
    both has_failed left (subst (λ (it : Bool). source_so false it has_failed left ≡ true) is so)
  where
    both : (has_failed : Bool) (left : Option (List ℕ)) → source_so false true has_failed left ≡ true
        → (has_failed ≡ false) × (is_at_end left ≡ true)
    both false left so = (refl, so)
    both true left so = absurd cc

read_by : (read has_ended has_failed : Bool) (left : Option (List ℕ))
    → source_so read has_ended has_failed left ≡ true → read ≡ true → has_failed ≡ true
read_by true has_ended has_failed left so is = so
read_by false has_ended has_failed left so is = absurd cc

pub source_left : (why : Failure) (has_ended has_failed : Bool) (left : Option (List ℕ))
    → source_so (is_read (Some why)) has_ended has_failed left ≡ true → SourceLeft (end.Failed why) has_failed left
source_left why has_ended has_failed left so = λ is. read_by (is_read (Some why)) has_ended has_failed left so is

pub lost_so : (why : Failure) → why ≡ failure.Unkept → is_unkept (Some why) ≡ true
lost_so why is = ap (λ (it : Failure). is_unkept (Some it)) is

-- a source that hadn't failed hasn't
pub source_begun : (ended has_failed : Bool) (left : Option (List ℕ))
    → ended ≡ false → has_failed ≡ false → source_so false ended has_failed left ≡ true
source_begun ended has_failed left unended good = source_failed None ended has_failed left unended good

-- and whether the last answer could be shown doesn't change it
pub source_shown : (ended shown : OperateEnd) (has_failed : Bool) (left : Option (List ℕ))
    → LastShown ended shown → SourceLeft ended has_failed left → SourceLeft shown has_failed left
source_shown ended shown has_failed left (inl same) so =
    subst (λ (it : OperateEnd). SourceLeft it has_failed left) (sym same) so
source_shown ended shown has_failed left (inr worse) so =
    subst (λ (it : OperateEnd). SourceLeft it has_failed left) (sym worse.3)
    (λ is. absurd (true≢false (sym is ∙ worse.1)))

pub as_it_ended : (ended : OperateEnd) → LastShown ended ended
as_it_ended ended = inl refl

pub not_shown : (ended : OperateEnd) (why : Failure)
    → is_read (Some why) ≡ false → is_unkept (Some why) ≡ false → LastShown ended (end.Failed why)
not_shown ended why unread kept = inr (why, unread, kept, refl)
