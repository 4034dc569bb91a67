-- One place more is written down.
use Rattle.std.proofs.Common.{◌+◌, ◌∙◌, ap, arith}
use Rattle.core_1401.specs.Storage.{cell_at}
use Rattle.operate_sitting.proofs.PlaceWatchLemmas.{written-more}
use Rattle.operate_sitting.proofs.place_watch.look.Goals as goal

pub loop-i-preserved : goal.loop-i-preserved
loop-i-preserved c =
    written-more c.args.core.now c.args.from c.loop-i.i c.args.cells.now c.loop-i.cells c.cell_in.result
    (omega (arith, c.loop-i-test.true, c.loop-i.auto.cells))
    (c.cell_in.ensures ∙ ap (λ n. cell_at c.args.core.now (n + c.loop-i.i)) c.from.ensures) c.loop-i.invariant
