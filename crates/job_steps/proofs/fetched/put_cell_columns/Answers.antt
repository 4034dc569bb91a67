-- Blanks follow the cells.
use Rattle.bytes_text.proofs.AddsLemmas.{adds_padded}
use Rattle.machine_notation.specs.Cells.{cells_text}
use Rattle.job_steps.proofs.fetched.put_cell_columns.Goals as goal

pub returns : goal.returns
returns c =
    adds_padded c.args.text.now c.put_cells.new.text c.pad.new.self (cells_text c.args.cells.now) c.len-from.result 9
    c.len-from.ensures c.put_cells.ensures c.pad.ensures
