-- Fifty columns are a row.
use Rattle.std.proofs.Common.{◌-◌, ◌∙◌, arith}
use Rattle.operate_views.proofs.RulerLemmas.{whole_row}
use Rattle.operate_views.proofs.ruler.row_cells.Goals as goal

pub returns : goal.returns
returns c =
    c.loop-at.invariant
    ∙ whole_row c.args.core.now c.args.first c.args.end c.args.row (c.loop-at.at - c.args.row) (omega arith)
