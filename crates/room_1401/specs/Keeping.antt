-- What a keeper has of a shared room's journal, and what of it seats and readers are shown (own).
use Rattle.std.specs.Prelude.{◌≡◌, ℕ, ◌-◌, ◌<◌, Bool, true, false, List, length, take, Option}
use mathlib.Core.List.{IsPrefix}
use Rattle.room_alone.specs.declared.entry.Entry.{Entry}
use Rattle.room_alone.specs.declared.entry.SeatedCommand.{SeatedCommand}
use Rattle.room_alone.specs.Journal.{IsLegal, pairs_of}
use Rattle.room_alone.specs.Kept.{Form, IsKeptAs, KeptAccount}

-- the entries that are kept: all of them; once a write has failed (true), all but the last
abbrev pub kept_part : Bool → List Entry → List Entry
kept_part false journal = journal
kept_part true journal = take (length journal - 1) journal

-- the commands that seats and readers are shown: those whose entries are kept
abbrev pub shown_by : Bool → List Entry → List SeatedCommand
shown_by failed journal = pairs_of (kept_part failed journal)

-- the same of what contracts see of a room that is kept
abbrev pub shown_in : KeptAccount → List SeatedCommand
shown_in account = shown_by account.failed account.room.journal

-- These commands are shown of what a keeper has kept of a legal journal: all of its commands while no write has failed,
-- and all but the last once one has (true).
pub record AreShown {S : Type 0} (has_failed : S → Bool) (kept : S → Option (List ℕ)) (first : Option (List ℕ))
    (form : Form) (size : ℕ) (failed : Bool) (pairs : List SeatedCommand) : Type 0 where
  pub keeper : S
  pub failed_is : has_failed keeper ≡ failed
  pub journal : List Entry
  pub legal : IsLegal size journal
  pub pairs_are : shown_by failed journal ≡ pairs
  pub text : IsKeptAs form size journal failed first (kept keeper)

-- A keeper no write of which has failed has the text of a legal journal, whose commands are these.
abbrev pub HasKept : {S : Type 0} → (S → Bool) → (S → Option (List ℕ)) → Option (List ℕ) → Form → ℕ
    → List SeatedCommand → Type 0
HasKept has_failed kept first form size pairs = AreShown has_failed kept first form size false pairs

-- A write of a keeper has failed: it has the text of a legal journal whose commands are these, and at most a part of
-- the line of one entry more. No write of a keeper that keeps nothing ever fails.
abbrev pub HasFailed : {S : Type 0} → (S → Bool) → (S → Option (List ℕ)) → Option (List ℕ) → Form → ℕ
    → List SeatedCommand → Type 0
HasFailed has_failed kept first form size pairs = AreShown has_failed kept first form size true pairs

-- At one moment exactly these commands are shown, by what a keeper has kept then. Only the room has a keeper, so nobody
-- else can say so.
abbrev pub AreAllShown : {S : Type 0} → (S → Bool) → (S → Option (List ℕ)) → Option (List ℕ) → Form → ℕ
    → List SeatedCommand → Type 0
AreAllShown has_failed kept first form size pairs =
    (failed : Bool) × AreShown has_failed kept first form size failed pairs

-- No write of such a keeper ever fails.
abbrev pub NeverFails : {S : Type 0} → (S → Bool) → Type 0
NeverFails {S} has_failed = (keeper : S) → has_failed keeper ≡ false

-- What a seat has seen begins with all that is shown, and goes on.
pub record SeesMore {S : Type 0} (has_failed : S → Bool) (kept : S → Option (List ℕ)) (first : Option (List ℕ))
    (form : Form) (size : ℕ) (seen : List SeatedCommand) : Type 0 where
  pub failed : Bool
  pub shown : List SeatedCommand
  pub are_shown : AreShown has_failed kept first form size failed shown
  pub begins : IsPrefix shown seen
  pub fewer : length shown < length seen
