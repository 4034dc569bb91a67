-- What a session has read and written, and what it leaves, by how it ended (own).
use Rattle.std.specs.Prelude.{◌≡◌, ◌≢◌, ℕ, ◌<◌, ◌≤◌, Bool, true, false, List, [], ◌∷◌, ◌++◌, length, Option, All, Ok}
use Rattle.std.specs.Io.KnownBytes.{Appends, Consumes, IsAtEnd}
use Rattle.console_text.specs.declared.line.Line.TheVariants.{Quit}
use Rattle.room_alone.specs.declared.session_end.SessionEnd.{SessionEnd}
use Rattle.room_alone.specs.declared.session_end.SessionEnd.TheVariants as end
use Rattle.console_text.specs.ConsoleLine.{Said}
use Rattle.bytes_streams.specs.Sink.{BeginsWith}
use Rattle.room_alone.specs.Text.{cut_of, lines_of}
use Rattle.room_alone.specs.Limits.{most_bytes}

-- how lines are answered at a console: `answered before lines written after` says that from before these lines are
-- answered by these bytes, and leave after
abbrev pub Exchange : Type 0 → Type 1
Exchange S = S → List Said → List ℕ → S → Type 0

-- none of these lines is QUIT
abbrev pub NoQuit : List Said → Type 0
NoQuit lines = All (λ said. said ≢ Ok Quit) lines

-- fewer bytes were read than a session may read, so that it could ask for another one
abbrev pub MayReadOn : List ℕ → Type 0
MayReadOn read = length read < most_bytes

-- it asked, and there was none
abbrev pub IsAllRead : Option (List ℕ) → List ℕ → Type 0
IsAllRead left read = IsAtEnd left × MayReadOn read

-- The bytes read end with the last line: at the end of input (true), or with its line feed.
abbrev pub EndsWithLine : Bool → Option (List ℕ) → List ℕ → Type 0
EndsWithLine true left read = IsAllRead left read
EndsWithLine false left read = (cut_of read).rest ≡ []

-- The lines read are those in front and the last one, and QUIT is none but perhaps the last.
pub record LastLine (ended : Bool) (left : Option (List ℕ)) (read : List ℕ) (front : List Said)
    (last : Said) : Type 0 where
  pub lines_are : lines_of ended read ≡ front ++ last ∷ []
  pub no_quit : NoQuit front
  pub ends : EndsWithLine ended left read

-- The lines in front were answered, then the last one was, which has a reply, and a part of that was written.
pub record BrokenOff {S : Type 0} (answered : Exchange S) (before : S) (front : List Said) (last : Said)
    (written : List ℕ) (after : S) : Type 0 where
  pub replies : List ℕ
  pub middle : S
  pub front_answered : answered before front replies middle
  pub reply : List ℕ
  pub last_answered : answered middle (last ∷ []) reply after
  pub some : 0 < length reply
  pub part : List ℕ
  pub begins : BeginsWith reply part
  pub written_is : written ≡ replies ++ part

-- the bytes read end with a line of whose reply no byte was written
abbrev pub EndsUnanswered : {S : Type 0} → Exchange S → Option (List ℕ) → S → List ℕ → List ℕ → S → Type 0
EndsUnanswered answered left before read written after =
    (ended : Bool) × (front : List Said) × (last : Said) × LastLine ended left read front last
    × (broken : BrokenOff answered before front last written after) × (broken.part ≡ [])

-- from the bytes read, what was written and what is left, by how the session ended
abbrev pub HasEnded : {S : Type 0} → Exchange S → SessionEnd → Option (List ℕ) → S → List ℕ → List ℕ → S → Type 0
HasEnded answered end.Quit left before read written after =
    (ended : Bool) × (front : List Said) × LastLine ended left read front (Ok Quit)
    × answered before (lines_of ended read) written after
HasEnded answered end.EndOfInput left before read written after =
    IsAllRead left read × NoQuit (lines_of true read) × answered before (lines_of true read) written after
HasEnded answered end.Read left before read written after =
    MayReadOn read × NoQuit (lines_of false read) × answered before (lines_of false read) written after
HasEnded answered end.Bound left before read written after =
    (length read ≡ most_bytes) × NoQuit (lines_of false read) × answered before (lines_of false read) written after
HasEnded answered end.Write left before read written after =
    (ended : Bool) × (front : List Said) × (last : Said) × LastLine ended left read front last
    × BrokenOff answered before front last written after
HasEnded answered end.Memory left before read written after = EndsUnanswered answered left before read written after
HasEnded answered end.Unkept left before read written after = EndsUnanswered answered left before read written after

-- What a session did: the bytes that it read, those that it wrote, and how these go together.
pub record SessionDid {S : Type 0} (answered : Exchange S) (last : SessionEnd)
    (left_before left_after received_before received_after : Option (List ℕ)) (before after : S) : Type 0 where
  pub read : List ℕ
  pub written : List ℕ
  pub consumed : Consumes left_before left_after read
  pub appended : Appends received_before received_after written
  pub bound : length read ≤ most_bytes
  pub session : HasEnded answered last left_after before read written after
