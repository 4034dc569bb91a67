-- The text spells the cells so far, and then what is left of it.
use Rattle.std.proofs.Common.{sym, arith}
use Rattle.std.proofs.lemmas.List.{length-take-le}
use Rattle.machine_notation.specs.Cells.{spelled}
use Rattle.machine_notation.proofs.SpelledLemmas.{cells_of-all, cells_of-missed, cells_of-long}
use Rattle.machine_notation.proofs.cells.read_cells.Goals as goal

pub returns-then-count-eq-MOST_CELLS : goal.returns-then-count-eq-MOST_CELLS
returns-then-count-eq-MOST_CELLS c =
    let so_far = c.loop-cell.invariant in
    rw (so_far.spelled_is, c.in-Some.ensures.0)
    (sym (cells_of-long _ _ _ (omega (arith, length-take-le c.loop-cell.count c.loop-cell.cells))))

pub returns-in_default-cell : goal.returns-in_default-cell
returns-in_default-cell c =
    let so_far = c.loop-cell.invariant in
    rw (so_far.spelled_is, c.in-Some.ensures.0, c.in_default-cell.is)
    (sym (cells_of-missed _ _ (omega (arith, length-take-le c.loop-cell.count c.loop-cell.cells))))

pub returns : goal.returns
unfolding spelled
returns c =
    let so_far = c.loop-cell.invariant in
    rw (so_far.spelled_is, c.in_default.ensures, c.ok_or.ensures.value, c.from_slice.ensures)
    (sym (cells_of-all _ (omega (arith, length-take-le c.loop-cell.count c.loop-cell.cells))))
