-- There are 1 to 40 cells.
use Rattle.machine_notation.proofs.SpelledLemmas.{again_on}
use Rattle.machine_notation.proofs.cells.put_cells.Goals as goal

pub returns-clause-again : goal.returns-clause-again
returns-clause-again c =
    again_on _ _ c.as_slice.ensures.some c.as_slice.ensures.most
    (rw (← c.as_slice.ensures.value) c.put_each.ensures.again)
