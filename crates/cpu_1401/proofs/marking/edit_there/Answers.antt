-- Nothing is cached of the places that were written.
use Rattle.cpu_1401.proofs.DecodeCacheLemmas.{current_done}
use Rattle.cpu_1401.proofs.marking.edit_there.Goals as goal

pub returns-clause-current : goal.returns-clause-current
returns-clause-current c =
    current_done c.args.cache.now.entries c.forget_written.new.cache.entries c.args.core.now c.edit-outcome.new.core c.args.b
    c.edit-outcome.result c.requires.current c.forget_written.ensures.part c.forget_written.ensures.apart
    c.edit-outcome.ensures.beside c.edit-outcome.ensures.outcome.unchanged
