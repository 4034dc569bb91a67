-- What a session at a terminal has read, written and told (own).
use Rattle.std.specs.Prelude.{◌≡◌, ◌⊎◌, ℕ, ⊤, List, [], Option, Result, Ok, Err}
use Rattle.room_alone.specs.Account.{Account}
use Rattle.room_alone.specs.declared.session_end.SessionEnd.{SessionEnd}
use Rattle.room_alone.specs.declared.session_end.SessionEnd.TheVariants as end
use Rattle.room_alone.specs.Turns.{Answered}
use Rattle.room_alone.specs.Session.{SessionDid}
use Rattle.room_alone.specs.declared.terminal_fault.ConsoleFault.{ConsoleFault}
use Rattle.room_alone.specs.declared.terminal_fault.ConsoleFault.TheVariants as console
use Rattle.room_alone.specs.declared.terminal_fault.SessionFault.{SessionFault}
use Rattle.room_alone.specs.declared.terminal_fault.SessionFault.TheVariants as fault

-- what a session's end is for a program: QUIT and the end of the input are no faults
abbrev pub outcome_of : SessionEnd → Result ⊤ SessionFault
outcome_of end.Quit = Ok tt
outcome_of end.EndOfInput = Ok tt
outcome_of end.Read = Err fault.Read
outcome_of end.Write = Err fault.Write
outcome_of end.Bound = Err fault.Bound
outcome_of end.Memory = Err fault.Memory
outcome_of end.Unkept = Err fault.Unkept

-- what a call tells of a session that was held
abbrev pub telling : Result ⊤ SessionFault → Result ⊤ ConsoleFault
telling (Ok _) = Ok tt
telling (Err why) = Err (console.Ended why)

-- the bytes that a source has left and that a sink has received, if they are known
pub record Streams : Type 0 where
  pub left : Option (List ℕ)
  pub received : Option (List ℕ)

abbrev pub streams : Option (List ℕ) → Option (List ℕ) → Streams
streams left received = record { left = left; received = received }

-- There was no room: nothing was read, and nothing written.
pub record NotStarted (old new : Streams) (outcome : Result ⊤ ConsoleFault) : Type 0 where
  pub why : (outcome ≡ Err console.Size) ⊎ (outcome ≡ Err console.Memory)
  pub unread : new.left ≡ old.left
  pub unwritten : new.received ≡ old.received

-- One session was held, at a room of this size with an empty journal, and all that was read and written is that
-- session's.
pub record HeldSession (size : ℕ) (old new : Streams) (outcome : Result ⊤ ConsoleFault) : Type 0 where
  pub end : SessionEnd
  pub told : outcome ≡ telling (outcome_of end)
  pub before : Account
  pub size_is : before.size ≡ size
  pub journal_is : before.journal ≡ []
  pub after : Account
  pub session : SessionDid Answered end old.left new.left old.received new.received before after

-- what a call of the console did: no session, or one
abbrev pub ConsoleDid : ℕ → Streams → Streams → Result ⊤ ConsoleFault → Type 0
ConsoleDid size old new outcome = NotStarted old new outcome ⊎ HeldSession size old new outcome
