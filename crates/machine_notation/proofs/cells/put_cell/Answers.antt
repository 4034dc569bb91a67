-- A character's graphic is its own.
use Rattle.machine_notation.proofs.SpelledLemmas.{cell_again}
use Rattle.machine_notation.proofs.cells.put_cell.Goals as goal

pub returns-clause-again : goal.returns-clause-again
returns-clause-again c = cell_again c.args.cell c.graphic.ensures.own
