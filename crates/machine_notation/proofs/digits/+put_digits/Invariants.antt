-- Each call has fewer places or a lesser number.
use Rattle.std.proofs.Common.{◌+◌}
use Rattle.machine_notation.proofs.digits.+put_digits.Given as goal

abbrev pub decreases-put_digits : goal.decreases-put_digits
decreases-put_digits l = l.width + l.number
