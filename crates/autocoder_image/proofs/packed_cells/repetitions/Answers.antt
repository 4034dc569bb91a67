-- One time more.
use Rattle.autocoder_image.proofs.PackedLemmas.{once_more}
use Rattle.autocoder_image.proofs.packed_cells.repetitions.Goals as goal

pub loop-times-preserved : goal.loop-times-preserved
loop-times-preserved c =
    once_more c.loop-times.times c.args.first.now c.args.cells.now c.loop-times.rest.now c.in-Some.beyond.now
    c.loop-times.invariant c.in-Some.ensures
