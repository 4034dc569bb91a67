-- What no feature claims, and what one leaves as it is, is refused.
use Rattle.std.proofs.Common.{rules}
use Rattle.cpu_1401.proofs.DecodedFittedLemmas.{left_refused, unclaimed_refused}
use Rattle.cpu_1401.proofs.machine.Machine.decode_claimed.Goals as goal

pub returns-in_default-clause-none : goal.returns-in_default-clause-none
returns-in_default-clause-none c = λ none.
    unclaimed_refused c.args.self.now c.args.stop (search rules) c.requires.refused

pub returns-then-eq-clause-none : goal.returns-then-eq-clause-none
returns-then-eq-clause-none c = λ none.
    left_refused c.args.self.now c.in-Some.said c.args.stop (search rules) (search rules) c.requires.refused
