-- Why a line has no reply, and what came of a request.
use Rattle.std.proofs.Common.{◌≡◌, ℕ, Bool, true, false, List, Result, Ok, Err, IfOk, IfErr, refl, inl, inr}
use Rattle.std.specs.Prelude.{MatchBool}
use Rattle.http_server.specs.declared.response.Response.{Response}
use Rattle.room_alone.specs.declared.entry.SeatedCommand.{SeatedCommand}
use Rattle.room_1401.specs.Seen.{SeatView}
use Rattle.console_1401.specs.declared.attending.Unanswered.{Unanswered}
use Rattle.console_1401.specs.declared.attending.Unanswered.TheVariants.{Memory, Unkept}
use Rattle.serving_page.specs.declared.taking.Brought.{Brought}
use Rattle.serving_page.specs.declared.taking.Replied.{Replied}
use Rattle.serving_page.specs.ManyLines.{IsReason, Saying}
use Rattle.serving_page.specs.Taking.{IsAnswered, IsNotAnswered, IsOutcome, IsToldBy, IsUnansweredBy}

-- a reason holds if something was lost wherever an entry isn't kept
pub reason : (lost : Type 0) (why : Unanswered) → (why ≡ Unkept → lost) → IsReason lost why
reason lost Memory given = tt
reason lost Unkept given = given refl

-- the page hears what came of a request, whether or not it has a reply
pub outcome : (brought : Brought) (size : ℕ) (says : Saying) (lost : List SeatedCommand → Type 0) (before : SeatView)
    (body : List ℕ) (response : Response) (after : SeatView) (given : Result Replied Unanswered)
    → IfOk given (λ replied. IsAnswered brought size says before body replied after)
    → IfErr given (λ why. IsNotAnswered brought size says lost before body why after)
    → IfOk given (λ replied. IsToldBy replied response) → IfErr given (λ why. IsUnansweredBy why response)
    → IsOutcome brought size says lost before body response after
outcome brought size says lost before body response after (Ok replied) ok err told untold = inl (replied, ok, told)
outcome brought size says lost before body response after (Err why) ok err told untold = inr (why, err, untold)

-- lines that come from the page, are for the room and go on from what the seat made are taken
pub taken : (own here next : Bool) (Taken NotNext Elsewhere Foreign : Type 0) → own ≡ true → here ≡ true → next ≡ true
    → Taken → MatchBool own (MatchBool here (MatchBool next Taken NotNext) Elsewhere) Foreign
taken true true true Taken NotNext Elsewhere Foreign own here next given = given
taken false here next Taken NotNext Elsewhere Foreign own heres nexts given = absurd cc
taken true false next Taken NotNext Elsewhere Foreign own heres nexts given = absurd cc
taken true true false Taken NotNext Elsewhere Foreign own heres nexts given = absurd cc
