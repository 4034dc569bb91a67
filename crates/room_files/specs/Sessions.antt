-- What a session did at a room whose journal is kept as a text (own).
use Rattle.std.specs.Prelude.{◌≡◌, ◌≢◌, ℕ, true, false, List, Option}
use Rattle.room_alone.specs.declared.session_end.SessionEnd.{SessionEnd}
use Rattle.room_alone.specs.declared.session_end.SessionEnd.TheVariants.{Unkept}
use Rattle.room_alone.specs.Session.{SessionDid}
use Rattle.room_alone.specs.Account.{Account}
use Rattle.room_alone.specs.Kept.{IsKeptAs, KeptAccount}
use Rattle.room_alone.specs.Turns.{AnsweredKept}
use Rattle.room_files.specs.JournalText.{journal_form}

-- A session was held at a room that is kept, from this room on. What is kept at its end is the text of the journal; or,
-- if and only if the session ended as Unkept, it breaks off in the last line.
pub record IsHeld (end : SessionEnd) (room : Account)
    (first left_before left_after received_before received_after : Option (List ℕ)) : Type 0 where
  pub before : KeptAccount
  pub after : KeptAccount
  pub room_is : before.room ≡ room
  pub session : SessionDid AnsweredKept end left_before left_after received_before received_after before after
  pub kept : IsKeptAs journal_form after.room.size after.room.journal after.failed first after.kept
  pub good : end ≢ Unkept → after.failed ≡ false
  pub unkept : end ≡ Unkept → after.failed ≡ true
