-- Of the lines answered at a room that is kept, the flags are picked line by line.
use Rattle.std.proofs.Common.{ℕ, List, Option}
use Rattle.room_alone.specs.Kept.{KeptAccount}
use Rattle.room_alone.specs.declared.session_end.SessionEnd.{SessionEnd}
use Rattle.room_alone.specs.Turns.{AnsweredKept, KeptResponds}
use Rattle.room_alone.specs.Session.{SessionDid}
use Rattle.room_alone.specs.Answering.{AnsweredAll}
use Rattle.room_alone.proofs.SessionLemmas.{session_as}
use Rattle.room_alone.proofs.TurnsLemmas.{answered_at_kept, kept_size_stays}
use Rattle.room_alone.proofs.kept_sessions.session_kept.Goals as goal

at_kept : (last : SessionEnd) (l0 l1 t0 t1 : Option (List ℕ)) (before after : KeptAccount)
    → SessionDid (AnsweredAll KeptResponds) last l0 l1 t0 t1 before after
    → SessionDid AnsweredKept last l0 l1 t0 t1 before after
at_kept = session_as (AnsweredAll KeptResponds) AnsweredKept answered_at_kept

pub returns-clause-session : goal.returns-clause-session
returns-clause-session g c = at_kept _ _ _ _ _ _ _ c.answer_lines-end.ensures.session

pub returns-clause-size : goal.returns-clause-size
returns-clause-size g c = kept_size_stays _ _ _ _ _ _ _ (at_kept _ _ _ _ _ _ _ c.answer_lines-end.ensures.session)
