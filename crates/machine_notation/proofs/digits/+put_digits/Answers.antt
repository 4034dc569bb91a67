-- The last digit, and in front of it those of the tenth part.
use Rattle.std.proofs.Common.{arith}
use Rattle.std.proofs.lemmas.Grind.{common_steps}
use Rattle.machine_notation.proofs.DigitLemmas.{one_digit, digits_more}
use Rattle.machine_notation.proofs.digits.+put_digits.Goals as goal
use Rattle.machine_notation.proofs.digits.+put_digits.Goals.{then-width-gt1+in_ok-put_digits}
use Rattle.machine_notation.proofs.digits.+put_digits.Goals.{then-width-gt1-via-then-width-gt1}
use Rattle.machine_notation.proofs.digits.+put_digits.Goals.{then-width-gt1-via-else-width-gt1+then-number-gt9}
use Rattle.machine_notation.proofs.digits.+put_digits.Goals.{else-width-gt1+else-number-gt9}

pub returns-clause-text : goal.returns-clause-text
returns-clause-text t c = elim c.if-width-gt1.branch [
  | then-width-gt1+in_ok-put_digits w ↦ elim w.then-width-gt1.branch [
    | then-width-gt1-via-then-width-gt1 w' ↦ grind
        (arith, common_steps, digits_more c.args.width c.args.number (omega arith) (omega arith))
    | then-width-gt1-via-else-width-gt1+then-number-gt9 w' ↦ grind
        (arith, common_steps, digits_more c.args.width c.args.number (omega arith) (omega arith))
  ]
  | else-width-gt1+else-number-gt9 w ↦ grind
      (arith, common_steps, one_digit c.args.width c.args.number (omega arith) (omega arith))
]

pub returns-in_err-put_digits-clause-full : goal.returns-in_err-put_digits-clause-full
returns-in_err-put_digits-clause-full t c = elim c.then-width-gt1.branch [
  | then-width-gt1-via-then-width-gt1 w ↦ grind
      (arith, common_steps, digits_more c.args.width c.args.number (omega arith) (omega arith))
  | then-width-gt1-via-else-width-gt1+then-number-gt9 w ↦ grind
      (arith, common_steps, digits_more c.args.width c.args.number (omega arith) (omega arith))
]

pub returns-in_err-push-clause-full : goal.returns-in_err-push-clause-full
returns-in_err-push-clause-full t c = elim c.if-width-gt1.branch [
  | then-width-gt1+in_ok-put_digits w ↦ elim w.then-width-gt1.branch [
    | then-width-gt1-via-then-width-gt1 w' ↦ grind
        (arith, common_steps, digits_more c.args.width c.args.number (omega arith) (omega arith))
    | then-width-gt1-via-else-width-gt1+then-number-gt9 w' ↦ grind
        (arith, common_steps, digits_more c.args.width c.args.number (omega arith) (omega arith))
  ]
  | else-width-gt1+else-number-gt9 w ↦ grind
      (arith, common_steps, one_digit c.args.width c.args.number (omega arith) (omega arith))
]
