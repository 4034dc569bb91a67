-- Requests answered one after the other.
use Rattle.std.proofs.Common.{List, [], ◌∷◌, ◌++◌, subst}
use Rattle.http_server.specs.Exchange.{Call, Chain}
use Rattle.serving_http.specs.Exchange.{Answering, Follows}

chain-append : {S : Type 0} (answers : Answering S) (calls more : List Call) (old middle new : S)
    → Chain answers old calls middle → Chain answers middle more new → Chain answers old (calls ++ more) new
chain-append {S} answers [] more old middle new first second =
    subst (λ (state : S). Chain answers state more new) first second
chain-append answers (call ∷ calls) more old middle new first second =
    (first.0, first.1, chain-append answers calls more first.0 middle new first.2 second)

-- requests that lead to a state, and then those that lead on from it
pub follows_then : {S : Type 0} (answers : Answering S) (old middle new : S)
    → Follows answers old middle → Follows answers middle new → Follows answers old new
follows_then answers old middle new first second =
    (first.0 ++ second.0, chain-append answers first.0 second.0 old middle new first.1 second.1)
