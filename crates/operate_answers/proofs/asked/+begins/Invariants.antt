-- Each call looks at fewer characters.
use Rattle.std.proofs.Common.{length}
use Rattle.operate_answers.proofs.asked.+begins.Given as goal

abbrev pub decreases-begins : goal.decreases-begins
decreases-begins l = length l.chars.now
