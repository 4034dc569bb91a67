-- A row more is added.
use Rattle.std.proofs.Common.{◌+◌, ◌-◌, ◌/◌, arith}
use Rattle.std.specs.List.{flat_map, range_with_len}
use Rattle.bytes_text.proofs.AddsLemmas.{adds_part}
use Rattle.operate_views.specs.Ruler.{numbered_row, rows_text}
use Rattle.operate_views.proofs.RulerLemmas.{row_more}
use Rattle.operate_views.proofs.ruler.put_core.Goals as goal

pub loop-number-preserved : goal.loop-number-preserved
loop-number-preserved c =
    let s = c.args.core.now in
    let row = numbered_row s c.args.first c.args.end in
    let k = c.loop-number.number in
    let last = (c.args.end + 49) / 50 in
    adds_part c.put.new.self c.loop-number.text c.put_row.new.text (row k)
    (flat_map row (range_with_len (k + 1) (last - (k + 1)))) (flat_map row (range_with_len k (last - k)))
    (rows_text s c.args.first c.args.end)
    (row_more s c.args.first c.args.end k last (omega (arith, c.loop-number-test.true, c.div_ceil-number-end.ensures)))
    c.loop-number.invariant c.put_row.ensures
