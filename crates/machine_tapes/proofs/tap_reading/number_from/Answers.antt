-- Nothing follows the end.
use Rattle.std.proofs.Common.{drop, sym, arith, length-drop}
use Rattle.machine_tapes.proofs.FrontLemmas.{number_none}
use Rattle.machine_tapes.proofs.tap_reading.number_from.Goals as goal

pub returns-then-from-text-clause-number : goal.returns-then-from-text-clause-number
returns-then-from-text-clause-number c =
    sym (number_none (drop c.args.from c.args.text.now) (omega (arith, length-drop c.args.from c.args.text.now)))
