-- Before the last digit a number is below 10 ^ 8.
use Rattle.std.proofs.Common.{arith}
use Rattle.machine_notation.proofs.NumberLemmas.{below_eight}
use Rattle.machine_notation.proofs.digits.read_digits.Goals as goal

pub overflow_mul-number : goal.overflow_mul-number
overflow_mul-number c =
    omega (arith, below_eight c.loop-digit.number c.loop-digit.digit-index c.loop-digit.invariant.bound (omega arith))

pub overflow_add-number : goal.overflow_add-number
overflow_add-number c =
    omega (arith, below_eight c.loop-digit.number c.loop-digit.digit-index c.loop-digit.invariant.bound (omega arith))
