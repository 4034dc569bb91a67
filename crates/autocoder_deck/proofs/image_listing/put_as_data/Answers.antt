-- A cell takes two bytes at most.
use Rattle.std.proofs.Common.{arith}
use Rattle.std.proofs.lemmas.Grind.{common_steps}
use Rattle.std.proofs.lemmas.Result.{on_ok_weaker, on_err_weaker}
use Rattle.autocoder_deck.proofs.CellsLemmas.{cells_added, cells_full}
use Rattle.autocoder_deck.proofs.image_listing.put_as_data.Goals as goal

pub returns-clause-few : goal.returns-clause-few
returns-clause-few c =
    on_ok_weaker c.put_cells.result
    (λ added. grind (arith, common_steps, cells_added _ _ c.args.cells.now added, c.requires))
    c.put_cells.ensures.text

pub returns-clause-full : goal.returns-clause-full
returns-clause-full c =
    on_err_weaker c.put_cells.result
    (λ full. grind (arith, common_steps, cells_full c.extend_from_slice.new.self c.args.cells.now full, c.requires))
    c.put_cells.ensures.full
