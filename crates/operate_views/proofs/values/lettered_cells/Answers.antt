-- All cells are there.
use Rattle.std.proofs.Common.{◌∙◌, arith, reverse}
use Rattle.std.proofs.lemmas.List.{take_all, length-reverse}
use Rattle.operate_views.specs.Value.{lettered}
use Rattle.operate_views.proofs.ValueLemmas.{length-lettered}
use Rattle.operate_views.proofs.values.lettered_cells.Goals as goal

pub returns : goal.returns
returns c =
    let all = lettered c.args.text.now (reverse c.args.cells.now) in
    let size = length-lettered c.args.text.now (reverse c.args.cells.now) in
    c.loop-i.invariant
    ∙ take_all c.loop-i.i all (omega (arith, size, length-reverse c.args.cells.now, c.loop-i-test.false))
