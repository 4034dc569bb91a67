-- Each call has one number fewer.
use Rattle.std.proofs.Common.{length}
use Rattle.operate_answers.proofs.stops.+first_missing.Given as goal

abbrev pub decreases-first_missing : goal.decreases-first_missing
decreases-first_missing l = length l.numbers.now
