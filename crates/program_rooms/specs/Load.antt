-- What a call that loads an image has read, written and told, once the file is read (own).
use Rattle.std.specs.Prelude.{◌≡◌, ◌<◌, ◌⊎◌, ℕ, ⊤, List, ◌++◌, length, Result, Err}
use Rattle.room_alone.specs.declared.session_end.SessionEnd.{SessionEnd}
use Rattle.console_1401.specs.ImageLoading.{fit_entries, load_entries}
use Rattle.machine_tables.specs.declared.features.Features.{Features}
use Rattle.room_alone.specs.Session.{SessionDid}
use Rattle.room_alone.specs.Turns.{Answered}
use Rattle.machine_image.specs.declared.image.Image.{Image}
use Rattle.machine_image.specs.ImageText.{IsTextOf}
use Rattle.machine_image.specs.Refusal.{IsRefused}
use Rattle.room_alone.specs.Account.{Account}
use Rattle.room_alone.specs.Journal.{most_entries}
use Rattle.program_rooms.specs.declared.session_fault.HoldFault.{HoldFault}
use Rattle.program_rooms.specs.declared.session_fault.HoldFault.TheVariants as fault
use Rattle.room_alone.specs.Console.{outcome_of, Streams}
use Rattle.program_rooms.specs.Ended.{session_outcome}

-- a room of an image's size, whose journal is that of fitting the machine with features, and of loading the image
pub record IsLoadedRoom (features : Features) (text : List ℕ) (room : Account) : Type 0 where
  pub image : Image
  pub text_is : IsTextOf text image
  pub size_is : room.size ≡ image.size
  pub journal_is : room.journal ≡ fit_entries features ++ load_entries image

-- an image whose commands, with that of the features, are more than a journal has entries
pub record IsTooLong (features : Features) (text : List ℕ) : Type 0 where
  pub image : Image
  pub text_is : IsTextOf text image
  pub more : most_entries < length (fit_entries features ++ load_entries image)

-- why an image wasn't put into a new room: its commands, with that of the features, are too many; or memory was refused
abbrev pub IsWhyNotPut : Features → Image → HoldFault → Type 0
IsWhyNotPut features image fault.Output = ⊥
IsWhyNotPut features image fault.Size = ⊥
IsWhyNotPut features image (fault.Unread name) = ⊥
IsWhyNotPut features image (fault.Image why) = ⊥
IsWhyNotPut features image fault.JournalFull = most_entries < length (fit_entries features ++ load_entries image)
IsWhyNotPut features image fault.Memory = ⊤
IsWhyNotPut features image (fault.Session why) = ⊥
IsWhyNotPut features image (fault.Kept why) = ⊥

-- why no image was loaded: the text's own fault; too many segments; or want of memory
abbrev pub IsWhyNotLoaded : Features → List ℕ → HoldFault → Type 0
IsWhyNotLoaded features text fault.Output = ⊥
IsWhyNotLoaded features text fault.Size = ⊥
IsWhyNotLoaded features text (fault.Unread name) = ⊥
IsWhyNotLoaded features text (fault.Image why) = IsRefused text why
IsWhyNotLoaded features text fault.JournalFull = IsTooLong features text
IsWhyNotLoaded features text fault.Memory = (image : Image) × IsTextOf text image
IsWhyNotLoaded features text (fault.Session why) = ⊥
IsWhyNotLoaded features text (fault.Kept why) = ⊥

-- No image was loaded: nothing was read, and nothing written.
pub record NotLoaded (features : Features) (text : List ℕ) (old new : Streams) (outcome : Result ⊤ HoldFault) : Type 0 where
  pub why : HoldFault
  pub told : outcome ≡ Err why
  pub reason : IsWhyNotLoaded features text why
  pub unread : new.left ≡ old.left
  pub unwritten : new.received ≡ old.received

-- One session was held at a room with the image loaded, and all that was read and written is that session's.
pub record HeldLoaded (features : Features) (text : List ℕ) (old new : Streams) (outcome : Result ⊤ HoldFault) : Type 0 where
  pub end : SessionEnd
  pub told : outcome ≡ session_outcome (outcome_of end)
  pub before : Account
  pub loaded : IsLoadedRoom features text before
  pub after : Account
  pub session : SessionDid Answered end old.left new.left old.received new.received before after

-- what a call did: no session, or one
abbrev pub LoadDid : Features → List ℕ → Streams → Streams → Result ⊤ HoldFault → Type 0
LoadDid features text old new outcome = NotLoaded features text old new outcome ⊎ HeldLoaded features text old new outcome
