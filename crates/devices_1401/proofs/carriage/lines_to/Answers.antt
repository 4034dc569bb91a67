-- The line is on this form if it is greater than the present one, else on the next.
use Rattle.std.proofs.Common.{sym, arith}
use Rattle.devices_1401.proofs.CarriageLemmas.{lines_to-below, lines_to-next_form}
use Rattle.devices_1401.proofs.carriage.lines_to.Goals as goal

pub returns-then-line-present-clause-value : goal.returns-then-line-present-clause-value
returns-then-line-present-clause-value c =
    sym (lines_to-below c.args.position c.args.line (omega arith) c.requires.most)

pub returns-else-line-present-clause-value : goal.returns-else-line-present-clause-value
returns-else-line-present-clause-value c =
    sym (lines_to-next_form c.args.position c.args.line (omega arith) c.requires.least)
