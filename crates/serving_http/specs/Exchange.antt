-- What a whole connection did (own).
use Rattle.std.specs.Prelude.{ℕ, List, [], Option, Some}
use Rattle.std.specs.Io.KnownBytes.{Appends, Consumes}
use Rattle.http.specs.declared.request.Request.{Request}
use Rattle.http_server.specs.declared.response.Response.{Response}
use Rattle.http_server.specs.declared.state.Config.{Config}
use Rattle.http_server.specs.Exchange.{Call, Chain}
use Rattle.http_server.specs.History.{History, IsDone, IsServed}
use Rattle.serving_http.specs.Limits.{IsPageConfig}

-- how a service answers: from the first state, the response answers the request and leaves the second state
abbrev pub Answering : Type 0 → Type 1
Answering S = S → Request (List ℕ) → Response → S → Type 0

-- some requests, answered one after the other, lead from the first state to the second
abbrev pub Follows : {S : Type 0} → Answering S → S → S → Type 0
Follows answers old new = (calls : List Call) × Chain answers old calls new

-- A connection is done: all that was read of it is what it received, all that it sent is what was written, and its
-- requests were answered one after the other.
pub record IsWholeConnection {S : Type 0} (answers : Answering S) (config : Config) (old new : S)
    (left_before left_after written_before written_after : Option (List ℕ)) : Type 0 where
  pub history : History
  pub served : ∥ IsServed config history ∥₁
  pub done : IsDone history
  pub answered : Chain answers old history.calls new
  pub received : Consumes left_before left_after history.received
  pub sent : Appends written_before written_after history.sent

-- The bytes of a connection were answered by these bytes, within the limits of a page; what comes after the last
-- request may be left.
pub record AnswersBytes {S : Type 0} (answers : Answering S) (request answer : List ℕ) (old new : S) : Type 0 where
  pub config : Config
  pub limits : IsPageConfig config
  pub left : List ℕ
  pub whole : IsWholeConnection answers config old new (Some request) (Some left) (Some []) (Some answer)
