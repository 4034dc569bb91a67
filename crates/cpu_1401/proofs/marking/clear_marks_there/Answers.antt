-- Nothing is cached of the two places.
use Rattle.cpu_1401.proofs.DecodeCacheLemmas.{current_two}
use Rattle.cpu_1401.proofs.marking.clear_marks_there.Goals as goal

pub returns-clause-current : goal.returns-clause-current
returns-clause-current c =
    current_two c.args.cache.now.entries c.forget_two.new.self.entries c.args.core.now c.clear_marks_within-done.new.core
    c.args.a c.args.b c.requires.current c.forget_two.ensures.part c.forget_two.ensures.apart_a
    c.forget_two.ensures.apart_b c.clear_marks_within-done.ensures.beside
