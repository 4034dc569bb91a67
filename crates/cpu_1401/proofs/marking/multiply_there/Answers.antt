-- Nothing is cached of the places that were written.
use Rattle.cpu_1401.proofs.DecodeCacheLemmas.{current_done}
use Rattle.cpu_1401.proofs.marking.multiply_there.Goals as goal

pub returns-clause-current : goal.returns-clause-current
returns-clause-current c =
    current_done c.args.cache.now.entries c.forget_written.new.cache.entries c.args.core.now c.multiply-outcome.new.core c.args.b
    c.multiply-outcome.result c.requires.current c.forget_written.ensures.part c.forget_written.ensures.apart
    c.multiply-outcome.ensures.beside c.multiply-outcome.ensures.outcome.unchanged
