-- One row more is added.
use Rattle.std.proofs.Common.{List, ℕ, ◌+◌, append-nil, subst, sym}
use Rattle.std.specs.List.{flat_map, range_with_len}
use Rattle.bytes_text.specs.Written.{Adds}
use Rattle.bytes_text.proofs.AddsLemmas.{adds}
use Rattle.serving_page.specs.PictureLines.{row_text}
use Rattle.serving_page.proofs.RowLemmas.{row_more}
use Rattle.serving_page.proofs.picture_lines.put_rows.Goals as goal

pub loop-row-init : goal.loop-row-init
loop-row-init c whole = (whole, sym (append-nil c.args.text.now.items))

pub loop-row-preserved : goal.loop-row-preserved
loop-row-preserved c =
    let row = row_text c.args.cells.now in
    let n = c.loop-row.row in
    let new = c.put_row.new.text in
    subst (λ (text : List ℕ). Adds c.args.text.now new text) (row_more row n)
    (adds c.args.text.now c.loop-row.text new (flat_map row (range_with_len 0 n)) (row n) c.loop-row.invariant
    c.put_row.ensures)
