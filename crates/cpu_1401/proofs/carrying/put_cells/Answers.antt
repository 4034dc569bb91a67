-- One cell more is put at the next place.
use Rattle.std.proofs.Common.{◌+◌, List, get_or, ◌∙◌, ap}
use Rattle.std.proofs.lemmas.List.{get_or_read}
use Rattle.bcd_1401.specs.declared.cell.Cell.{Cell}
use Rattle.core_1401.specs.Storage.{Storage, blank}
use Rattle.cpu_1401.specs.State.{State, with_cell}
use Rattle.cpu_1401.proofs.CellsLemmas.{deposited-more}
use Rattle.cpu_1401.proofs.carrying.put_cells.Goals as goal

pub loop-i-preserved : goal.loop-i-preserved
loop-i-preserved c =
    let cells : List Cell = c.args.cells.now in
    let first : State = c.args.machine.now in
    let at = c.args.address + c.loop-i.i in
    let cell = get_or cells c.loop-i.i blank in
    let read = get_or_read cells c.loop-i.i c.index-cells-i.result c.loop-i-test.true c.index-cells-i.is blank in
    c.put.ensures.value
    ∙ ap (λ (each : Cell). with_cell c.loop-i.machine at each) read
    ∙ ap (λ (state : State). with_cell state at cell) c.loop-i.invariant
    ∙ ap (λ (storage : Storage). record first { storage = storage })
    (deposited-more first.storage c.args.address cells c.loop-i.i c.loop-i-test.true c.requires.inside)
