-- Two ways to say that lines were answered, one of which gives the other.
use Rattle.std.proofs.Common.{ℕ, List, [], ◌∷◌, Option}
use Rattle.room_alone.specs.declared.session_end.SessionEnd.{SessionEnd}
use Rattle.room_alone.specs.declared.session_end.SessionEnd.TheVariants as end
use Rattle.console_text.specs.ConsoleLine.{Said}
use Rattle.room_alone.specs.Session.{Exchange, BrokenOff, HasEnded, SessionDid}

-- lines answered in the one way are answered in the other
abbrev pub Gives : {S : Type 0} → Exchange S → Exchange S → Type 0
Gives {S} one other =
    (before : S) (lines : List Said) (written : List ℕ) (after : S) → one before lines written after
    → other before lines written after

broken_off_as : {S : Type 0} (one other : Exchange S) (gives : Gives one other) (before : S) (front : List Said)
    (last : Said) (written : List ℕ) (after : S)
    → BrokenOff one before front last written after → BrokenOff other before front last written after
broken_off_as one other gives before front last written after b = record {
  replies = b.replies;
  middle = b.middle;
  front_answered = gives before front b.replies b.middle b.front_answered;
  reply = b.reply;
  last_answered = gives b.middle (last ∷ []) b.reply after b.last_answered;
  some = b.some;
  part = b.part;
  begins = b.begins;
  written_is = b.written_is;
}

ended_as : {S : Type 0} (one other : Exchange S) (gives : Gives one other) (last : SessionEnd) (left : Option (List ℕ))
    (before : S) (read written : List ℕ) (after : S)
    → HasEnded one last left before read written after → HasEnded other last left before read written after
unfolding broken_off_as
ended_as one other gives end.Quit left before read written after s = (s.0, s.1, s.2, gives before _ written after s.3)
ended_as one other gives end.EndOfInput left before read written after s = (s.0, s.1, gives before _ written after s.2)
ended_as one other gives end.Read left before read written after s = (s.0, s.1, gives before _ written after s.2)
ended_as one other gives end.Bound left before read written after s = (s.0, s.1, gives before _ written after s.2)
ended_as one other gives end.Write left before read written after s =
    (s.0, s.1, s.2, s.3, broken_off_as one other gives before s.1 s.2 written after s.4)
ended_as one other gives end.Memory left before read written after s =
    (s.0, s.1, s.2, s.3, broken_off_as one other gives before s.1 s.2 written after s.4, s.5)
ended_as one other gives end.Unkept left before read written after s =
    (s.0, s.1, s.2, s.3, broken_off_as one other gives before s.1 s.2 written after s.4, s.5)

-- a session whose lines were answered in the one way, said in the other
pub session_as : {S : Type 0} (one other : Exchange S) → Gives one other
    → (last : SessionEnd) (l0 l1 t0 t1 : Option (List ℕ)) (before after : S)
    → SessionDid one last l0 l1 t0 t1 before after → SessionDid other last l0 l1 t0 t1 before after
session_as one other gives last l0 l1 t0 t1 before after did = record {
  read = did.read;
  written = did.written;
  consumed = did.consumed;
  appended = did.appended;
  bound = did.bound;
  session = ended_as one other gives last l1 before did.read did.written after did.session;
}
