-- The low eight bits of the window.
use Rattle.std.proofs.Common.{◌∙◌, arith}
use Rattle.core_1401.proofs.BitLemmas.{bit_mod}
use Rattle.core_1401.proofs.mark_words.marks_up.Goals as goal

pub returns : goal.returns
returns c = λ j within. bit_mod c.window_up.result 8 j within ∙ c.window_up.ensures j (omega (arith, within))
