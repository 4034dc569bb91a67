-- One cell more is added.
use Rattle.std.proofs.Common.{◌+◌, ◌-◌, drop, subst, take}
use Rattle.bcd_1401.specs.declared.cell.Cell.{Cell}
use Rattle.bytes_text.specs.Written.{Adds}
use Rattle.bytes_text.proofs.AddsLemmas.{adds_part}
use Rattle.core_1401.specs.Storage.{cell_at}
use Rattle.machine_notation.specs.Cells.{cell_text, cells_text}
use Rattle.job_steps.proofs.PlaceLemmas.{cell_more}
use Rattle.job_steps.proofs.changes.put_cells_from.Goals as goal

pub loop-place-preserved : goal.loop-place-preserved
loop-place-preserved c =
    let core = c.args.core.now in
    let place = c.loop-place.place in
    let end = c.args.end in
    let new = c.put_cell.new.self in
    adds_part c.args.text.now c.loop-place.text new (cell_text (cell_at core place))
    (cells_text (take (end - (place + 1)) (drop (place + 1) core))) (cells_text (take (end - place) (drop place core)))
    (cells_text (take (end - c.args.at) (drop c.args.at core)))
    (cell_more core place end c.loop-place-test.true c.requires.within) c.loop-place.invariant
    (subst (λ (cell : Cell). Adds c.loop-place.text new (cell_text cell)) c.get.ensures c.put_cell.ensures)
