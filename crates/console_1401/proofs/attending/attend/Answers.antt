-- Line by line the seat's commands stand in its list.
use Rattle.std.proofs.Common.{◌≡◌, ℕ, List, Option, sym, subst}
use Rattle.room_alone.specs.declared.entry.SeatedCommand.{SeatedCommand}
use Rattle.room_1401.specs.Keeping.{HasFailed}
use Rattle.room_1401.specs.Seen.{SeatView}
use Rattle.room_alone.specs.declared.session_end.SessionEnd.{SessionEnd}
use Rattle.room_alone.specs.Answering.{AnsweredAll}
use Rattle.console_1401.specs.Attended.{Attended}
use Rattle.console_1401.specs.SeatTurns.{KeptResponds}
use Rattle.room_alone.specs.Session.{SessionDid}
use Rattle.console_1401.proofs.AttendedLemmas.{attended_when_kept, number_stays}
use Rattle.room_alone.proofs.SessionLemmas.{session_as}
use Rattle.console_1401.proofs.attending.attend.Goals as goal

at_seat : (size : ℕ) (has_kept has_failed : List SeatedCommand → Type 0) (last : SessionEnd)
    (l0 l1 t0 t1 : Option (List ℕ)) (before after back : SeatView) → back ≡ after
    → SessionDid (AnsweredAll (KeptResponds size has_kept has_failed)) last l0 l1 t0 t1 before after
    → SessionDid (Attended size) last l0 l1 t0 t1 before back
at_seat size has_kept has_failed last l0 l1 t0 t1 before after back is did =
    subst (λ (seat : SeatView). SessionDid (Attended size) last l0 l1 t0 t1 before seat) (sym is)
    (session_as (AnsweredAll (KeptResponds size has_kept has_failed)) (Attended size)
    (attended_when_kept size has_kept has_failed) last l0 l1 t0 t1 before after did)

pub returns-clause-session : goal.returns-clause-session
returns-clause-session g c =
    at_seat g.J.RoomId.size _ _ _ _ _ _ _ _ _ _ c.into_seat.ensures c.answer_lines-end.ensures.session

pub returns-clause-number : goal.returns-clause-number
returns-clause-number g c =
    number_stays g.J.RoomId.size _ _ _ _ _ _ _
    (at_seat g.J.RoomId.size _ _ _ _ _ _ _ _ _ _ c.into_seat.ensures c.answer_lines-end.ensures.session)

-- a keeper has failed after all that the seat has seen
pub returns-clause-unkept : goal.returns-clause-unkept
returns-clause-unkept g c is =
    let keeper = g.P.Keeper in
    subst
    (λ (seat : SeatView). HasFailed keeper.has_failed keeper.kept keeper.first keeper.form g.J.RoomId.size seat.list)
    (sym c.into_seat.ensures) (c.answer_lines-end.ensures.unkept is)
