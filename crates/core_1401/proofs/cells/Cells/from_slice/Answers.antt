-- The cells were copied in front of blanks.
use Rattle.std.proofs.Common.{arith}
use Rattle.core_1401.proofs.CellsLemmas.{in_front}
use Rattle.core_1401.proofs.cells.Cells.from_slice.Goals as goal

pub invariant_of-result : goal.invariant_of-result
invariant_of-result c =
    in_front c.args.cells.now c.copy_from_slice.new.self c.copy_from_slice.ensures.after
    (omega (arith, c.if-len-lt1.false)) (omega (arith, c.if-len-gt-MOST_CELLS.false))
