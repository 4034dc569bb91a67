-- One cell more after those so far.
use Rattle.std.proofs.Common.{◌≡◌, ◌+◌, [], ◌∷◌, ◌++◌, take, arith, refl, sym, ap, ◌∙◌}
use Rattle.std.proofs.lemmas.Grind.{common_steps, flat_map-append}
use Rattle.std.proofs.lemmas.List.{take_more, append-nil}
use Rattle.std.specs.List.{flat_map}
use Rattle.machine_notation.specs.Cells.{cell_text, cells_text, spelled}
use Rattle.machine_notation.proofs.SpelledLemmas.{cells_again}
use Rattle.machine_notation.proofs.RoomLemmas.{if_so, lacks_for_one}
use Rattle.machine_notation.proofs.cells.put_each.Goals as goal

pub loop-cell-init : goal.loop-cell-init
unfolding spelled
loop-cell-init c = record {
  text = sym (append-nil c.args.text.now.items);
  again = refl;
  capacity = omega arith;
}

pub loop-cell-preserved : goal.loop-cell-preserved
loop-cell-preserved c =
    let cells = c.args.cells.now in
    let cell = c.cell-item.result in
    let i = c.loop-cell.cell-index in
    let more : take (i + 1) cells ≡ take i cells ++ cell ∷ [] =
    take_more cells i cell (omega arith) ∙ ap (λ each. take i cells ++ each ∷ []) (sym c.cell-item.is) in
    let one_more : flat_map cell_text (take i cells ++ cell ∷ [])
    ≡ flat_map cell_text (take i cells) ++ cell_text cell = search (flat_map-append, append-nil) in
    record {
      text = grind (arith, common_steps);
      again =
          rw (more, one_more)
          (cells_again _ _ (take i cells) cell c.loop-cell.invariant.again c.in_ok-put_cell.ensures.again);
      capacity = omega arith;
    }

pub returns-in_err-put_cell-clause-full : goal.returns-in_err-put_cell-clause-full
unfolding cells_text
returns-in_err-put_cell-clause-full c =
    if_so c.from_residual.result
    (lacks_for_one cell_text c.args.cells.now c.loop-cell.cell-index c.cell-item.result c.args.text.now
    c.loop-cell.text (omega arith) c.cell-item.is c.loop-cell.invariant.text c.loop-cell.invariant.capacity
    c.in_err-put_cell.ensures.full)
