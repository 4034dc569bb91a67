-- A request leads on from where the ones before it led.
use Rattle.serving_http.proofs.FollowLemmas.{follows_then}
use Rattle.serving_http.proofs.listening.answer_each.Goals as goal

pub loop-preserved : goal.loop-preserved
loop-preserved g c =
    follows_then g.S.Service.answers c.args.service.now c.loop.service c.answer_bytes-answer.new.service
    c.loop.invariant c.answer_bytes-answer.ensures.follows
