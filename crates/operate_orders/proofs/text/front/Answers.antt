-- Shorter texts are held whole.
use Rattle.std.proofs.Common.{sym, take_all, arith}
use Rattle.operate_orders.specs.Text.{kept}
use Rattle.operate_orders.proofs.text.front.Goals as goal

pub returns-else-text-gt-LINE_LIMIT-clause-value : goal.returns-else-text-gt-LINE_LIMIT-clause-value
unfolding kept
returns-else-text-gt-LINE_LIMIT-clause-value c = sym (take_all 200 c.args.text.now (omega arith))
