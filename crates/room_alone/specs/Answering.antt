-- What answering lines did, at any console (own).
use Rattle.std.specs.Prelude.{◌≡◌, ◌≢◌, ℕ, Bool, true, false, List, [], ◌∷◌, ◌++◌, take, Option, None, Some, IsSome, Ok}
use Rattle.std.specs.Io.KnownBytes.{Appends, Keeps}
use Rattle.console_text.specs.declared.line.Line.TheVariants.{Quit}
use Rattle.room_alone.specs.declared.reply.Reply.{Reply}
use Rattle.room_alone.specs.declared.session_end.SessionEnd.{SessionEnd}
use Rattle.room_alone.specs.declared.session_end.SessionEnd.TheVariants as end
use Rattle.console_text.specs.ConsoleLine.{Said, said_by}
use Rattle.room_alone.specs.ReplyText.{bytes_of}
use Rattle.room_alone.specs.Session.{Exchange}
use Rattle.bytes_streams.specs.Sink.{AppendsPart}
use Rattle.room_alone.specs.Text.{said_finished}
use Rattle.room_alone.specs.Limits.{kept_bytes}

-- how a console's responder answers a line: `responds before said reply after` says that from before it may
-- be answered so, and leave after
abbrev pub Response : Type 0 → Type 1
Response S = S → Said → Option Reply → S → Type 0

-- these lines were answered, each from what the one before left, and these bytes are the replies, joined
abbrev pub AnsweredAll : {S : Type 0} → Response S → Exchange S
AnsweredAll responds before [] written after = (written ≡ []) × (after ≡ before)
AnsweredAll {S} responds before (said ∷ lines) written after =
    (middle : S) × (reply : Option Reply) × (rest : List ℕ) × responds before said reply middle
    × (written ≡ bytes_of reply ++ rest) × AnsweredAll responds middle lines rest after

-- what was written of a reply: all of it if the session goes on or ended with QUIT, a part if a write failed,
-- nothing if its memory was refused, or if what it tells wasn't kept
abbrev pub Wrote : Option SessionEnd → Said → Option (List ℕ) → Option (List ℕ) → Option Reply → Type 0
Wrote None said old new reply = (said ≢ Ok Quit) × Appends old new (bytes_of reply)
Wrote (Some end.Quit) said old new reply = (said ≡ Ok Quit) × Appends old new (bytes_of reply)
Wrote (Some end.Write) said old new reply = IsSome reply × AppendsPart old new (bytes_of reply)
Wrote (Some end.Memory) said old new reply = IsSome reply × Keeps old new
Wrote (Some end.Unkept) said old new reply = IsSome reply × Keeps old new
Wrote (Some end.EndOfInput) said old new reply = ⊥
Wrote (Some end.Read) said old new reply = ⊥
Wrote (Some end.Bound) said old new reply = ⊥

-- One line was carried out, and then its reply was written; next is how the session ended by it, or none.
pub record AnswersLine {S : Type 0} (responds : Response S) (next : Option SessionEnd) (said : Said) (before after : S)
    (old new : Option (List ℕ)) : Type 0 where
  pub reply : Option Reply
  pub responded : responds before said reply after
  pub wrote : Wrote next said old new reply

-- how a session ends if its last line was answered so
abbrev pub end_after : Option SessionEnd → SessionEnd
end_after None = end.EndOfInput
end_after (Some last) = last

-- at the end of input an unfinished line is answered, if it has a byte
abbrev pub AnswersLast : {S : Type 0} → Response S → SessionEnd → List ℕ → S → S → Option (List ℕ) → Option (List ℕ)
    → Type 0
AnswersLast responds last [] before after old new = (last ≡ end.EndOfInput) × (after ≡ before) × Keeps old new
AnswersLast responds last (byte ∷ bytes) before after old new =
    (next : Option SessionEnd) × (last ≡ end_after next)
    × AnswersLine responds next (said_by (byte ∷ bytes)) before after old new

-- one byte more: a line feed (true) ends a line, which is answered; any other byte is kept, up to the most that is kept
-- of a line
abbrev pub EntersByte : {S : Type 0} → Response S → Bool → ℕ → Option SessionEnd → List ℕ → List ℕ → S → S
    → Option (List ℕ) → Option (List ℕ) → Type 0
EntersByte responds true byte next line kept before after old new =
    AnswersLine responds next (said_finished line) before after old new × (kept ≡ [])
EntersByte responds false byte next line kept before after old new =
    (next ≡ None) × (kept ≡ take kept_bytes (line ++ byte ∷ [])) × (after ≡ before) × (new ≡ old)
