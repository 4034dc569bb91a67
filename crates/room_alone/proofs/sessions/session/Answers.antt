-- Of the lines answered at the room, the flags are picked line by line.
use Rattle.std.proofs.Common.{ℕ, List, Option}
use Rattle.room_alone.specs.Account.{Account}
use Rattle.room_alone.specs.declared.session_end.SessionEnd.{SessionEnd}
use Rattle.room_alone.specs.Turns.{Answered, RoomResponds}
use Rattle.room_alone.specs.Session.{SessionDid}
use Rattle.room_alone.specs.Answering.{AnsweredAll}
use Rattle.room_alone.proofs.SessionLemmas.{session_as}
use Rattle.room_alone.proofs.TurnsLemmas.{answered_at_room, size_stays}
use Rattle.room_alone.proofs.sessions.session.Goals as goal

at_room : (last : SessionEnd) (l0 l1 t0 t1 : Option (List ℕ)) (before after : Account)
    → SessionDid (AnsweredAll RoomResponds) last l0 l1 t0 t1 before after
    → SessionDid Answered last l0 l1 t0 t1 before after
at_room = session_as (AnsweredAll RoomResponds) Answered answered_at_room

pub returns-clause-session : goal.returns-clause-session
returns-clause-session g c = at_room _ _ _ _ _ _ _ c.answer_lines.ensures.session

pub returns-clause-size : goal.returns-clause-size
returns-clause-size g c = size_stays _ _ _ _ _ _ _ (at_room _ _ _ _ _ _ _ c.answer_lines.ensures.session)
