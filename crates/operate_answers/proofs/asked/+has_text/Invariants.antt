-- Each call looks at fewer characters.
use Rattle.std.proofs.Common.{length}
use Rattle.operate_answers.proofs.asked.+has_text.Given as goal

abbrev pub decreases-has_text : goal.decreases-has_text
decreases-has_text l = length l.chars.now
