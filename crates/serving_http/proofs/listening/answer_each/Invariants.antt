-- The requests so far lead from the first state to this one.
use Rattle.serving_http.specs.Exchange.{Follows}
use Rattle.serving_http.proofs.listening.answer_each.Given as goal

abbrev pub invariant-loop : goal.invariant-loop
invariant-loop g l = Follows g.S.Service.answers l.initial.service l.service
