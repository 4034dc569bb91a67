-- Nothing is there at first.
use Rattle.std.proofs.Common.{◌∙◌, ap, arith, length, reverse, sym}
use Rattle.std.proofs.lemmas.List.{drop_all}
use Rattle.operate_views.specs.Value.{filled}
use Rattle.operate_views.proofs.ValueLemmas.{length-filled}
use Rattle.operate_views.proofs.values.numbered_cells.Goals as goal

pub loop-left-init : goal.loop-left-init
loop-left-init c =
    let cells = c.args.cells.now in
    let digits = reverse c.args.digits.now in
    record {
      within = omega arith;
      put = c.new-put.ensures.items
          ∙ sym (ap reverse (drop_all (length cells) (filled c.args.zone digits cells)
          (omega (arith, length-filled c.args.zone digits cells))));
    }
