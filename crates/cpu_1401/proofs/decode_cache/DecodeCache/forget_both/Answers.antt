-- What is left at the end was left after the first place.
use Rattle.cpu_1401.proofs.decode_cache.DecodeCache.forget_both.Goals as goal

pub returns-clause-part : goal.returns-clause-part
returns-clause-part c = λ at entry cached. c.forget.ensures.part at entry (c.forget-2.ensures.part at entry cached)

pub returns-clause-apart_a : goal.returns-clause-apart_a
returns-clause-apart_a c = λ at entry cached. c.forget.ensures.apart at entry (c.forget-2.ensures.part at entry cached)
