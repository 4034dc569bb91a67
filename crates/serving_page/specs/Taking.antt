-- Console lines, as a request brings one or several (own).
use Rattle.std.specs.Prelude.{◌≡◌, ℕ, ◌⊎◌, Bool, List, [], Option, None, Some, MatchBool}
use mathlib.Core.List.{IsPrefix}
use Rattle.http.specs.declared.request.Parts.{Parts}
use Rattle.http_server.specs.declared.response.Response.{Response}
use Rattle.http_server.specs.Response.{IsResponse}
use Rattle.room_alone.specs.declared.entry.SeatedCommand.{SeatedCommand}
use Rattle.room_alone.specs.Kept.{Form}
use Rattle.room_1401.specs.Keeping.{HasFailed, HasKept}
use Rattle.room_1401.specs.Seen.{SeatView}
use Rattle.console_text.specs.ConsoleLine.{said_by}
use Rattle.console_1401.specs.declared.attending.Unanswered.{Unanswered}
use Rattle.console_1401.specs.declared.attending.Unanswered.TheVariants.{Memory, Unkept}
use Rattle.console_1401.specs.SeatTurns.{AnswersAtSeat, IsUnanswered}
use Rattle.serving_http.specs.Fields.{count_in, is_for_room, is_next}
use Rattle.serving_http.specs.Responses.{IsRefused, IsText, text_fields}
use Rattle.serving_http.specs.Sites.{is_from_site, SiteView}
use Rattle.serving_page.specs.declared.taking.Brought.{Brought}
use Rattle.serving_page.specs.declared.taking.Brought.TheVariants.{Line, Lines}
use Rattle.serving_page.specs.declared.taking.Replied.{Replied}
use Rattle.serving_page.specs.declared.taking.Replied.TheVariants.{Whole, KeptOff}
use Rattle.serving_page.specs.ManyLines.{IsReason, LinesAnswered, LinesKeptOff, LinesUnanswered, Saying, lines_of}

-- a line was carried out and isn't answered: 507 if memory was refused for its reply, 500 if its entry wasn't kept
abbrev pub IsUnansweredBy : Unanswered → Response → Type 0
IsUnansweredBy Memory response = IsResponse 507 text_fields [] response
IsUnansweredBy Unkept response = IsResponse 500 text_fields [] response

-- a keeper has failed after the commands that a seat has seen, and one had kept them
abbrev pub HasLost : {S : Type 0} → (S → Bool) → (S → Option (List ℕ)) → Option (List ℕ) → Form → ℕ
    → List SeatedCommand → Type 0
HasLost has_failed kept first form size seen =
    HasFailed has_failed kept first form size seen × HasKept has_failed kept first form size seen

-- a text about what is held off; or none, if the memory for it was refused
abbrev pub IsLocked : List ℕ → Response → Type 0
IsLocked text response = IsResponse 423 text_fields text response ⊎ IsResponse 423 text_fields [] response

-- lines were replied this: all that were carried out; or those before the first to be held off, and why it is
abbrev pub AreReplied : ℕ → Saying → SeatView → List (List ℕ) → Replied → SeatView → Type 0
AreReplied size says before lines (Whole text) after = LinesAnswered size says before lines text.items after
AreReplied size says before lines (KeptOff text) after = LinesKeptOff size says before lines text.items after

-- the same of one line
abbrev pub IsReplied : ℕ → Saying → SeatView → List ℕ → Replied → SeatView → Type 0
IsReplied size says before line (Whole text) after =
    says (lines_of line) None × AnswersAtSeat size before (said_by line) text.items after
IsReplied size says before line (KeptOff text) after = says (lines_of line) (Some text.items) × (after ≡ before)

-- what a request brings is replied this at a seat
abbrev pub IsAnswered : Brought → ℕ → Saying → SeatView → List ℕ → Replied → SeatView → Type 0
IsAnswered Line size says before body replied after = IsReplied size says before body replied after
IsAnswered Lines size says before body replied after = AreReplied size says before (lines_of body) replied after

-- the response has the replies, and the status of what is held off
abbrev pub IsToldBy : Replied → Response → Type 0
IsToldBy (Whole text) response = IsText text.items response
IsToldBy (KeptOff text) response = IsLocked text.items response

-- it was carried out, if not to its end, and there is no reply, for a reason that holds
abbrev pub IsNotAnswered : Brought → ℕ → Saying → (List SeatedCommand → Type 0) → SeatView → List ℕ → Unanswered
    → SeatView → Type 0
IsNotAnswered Line size says lost before body why after =
    says (lines_of body) None × IsReason (lost after.list) why × IsUnanswered size before (said_by body) after
IsNotAnswered Lines size says lost before body why after =
    LinesUnanswered size says lost before (lines_of body) why after

-- the response has what it is replied, or says that there is no reply
abbrev pub IsOutcome : Brought → ℕ → Saying → (List SeatedCommand → Type 0) → SeatView → List ℕ → Response
    → SeatView → Type 0
IsOutcome brought size says lost before body response after =
    ((replied : Replied) × IsAnswered brought size says before body replied after × IsToldBy replied response)
    ⊎ ((why : Unanswered) × IsNotAnswered brought size says lost before body why after × IsUnansweredBy why response)

-- A seat's number stays, and what it has seen goes on.
pub record GoesOn (before after : SeatView) : Type 0 where
  pub number_is : after.number ≡ before.number
  pub grows : IsPrefix before.list after.list

-- what a request brings has to come from the seat's own page, to be for this room if it names one, and to go on from
-- what the seat made; else nothing is carried out
abbrev pub Takes : Brought → ℕ → Saying → (List SeatedCommand → Type 0) → SiteView → List ℕ → Parts → List ℕ
    → SeatView → Response → SeatView → Type 0
Takes brought size says lost site name head body before response after =
    MatchBool (is_from_site head site)
    (MatchBool (is_for_room head name)
    (MatchBool (is_next (count_in head) before.made)
    (IsOutcome brought size says lost before body response after × GoesOn before after)
    (IsRefused 409 response × (after ≡ before)))
    (IsRefused 409 response × (after ≡ before)))
    (IsRefused 403 response × (after ≡ before))
