-- Five digits are enough.
use Rattle.std.proofs.Common.{arith}
use Rattle.std.proofs.lemmas.Result.{on_ok_weaker, on_err_weaker}
use Rattle.machine_notation.proofs.LengthLemmas.{digits_added, digits_full}
use Rattle.machine_notation.proofs.instruction.put_number.Goals as goal

pub returns-clause-few : goal.returns-clause-few
returns-clause-few c =
    on_ok_weaker c.put_digits.result
    (λ added. digits_added _ _ c.args.width c.from.result added (omega arith) (omega (arith, c.from.ensures)))
    c.put_digits.ensures.text

pub returns-clause-full : goal.returns-clause-full
returns-clause-full c =
    on_err_weaker c.put_digits.result
    (λ full. digits_full c.args.text.now c.args.width c.from.result full (omega arith) (omega (arith, c.from.ensures)))
    c.put_digits.ensures.full
