-- Zeros write zero, and nothing else does.
use Rattle.std.proofs.Common.{◌∙◌}
use Rattle.operate_program.proofs.ComparisonLemmas.{zeros_are_zero}
use Rattle.operate_program.proofs.comparison.are_zeros.Goals as goal

pub returns : goal.returns
returns c = c.all_zeros.ensures ∙ zeros_are_zero c.args.digits.now c.requires
