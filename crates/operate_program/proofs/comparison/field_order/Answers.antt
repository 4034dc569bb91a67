-- All characters are compared.
use Rattle.std.proofs.Common.{◌∙◌, arith, sym}
use Rattle.fields_1401.specs.Number.{places_down}
use Rattle.operate_program.specs.Comparison.{orders_of, orders_of_text}
use Rattle.operate_program.proofs.ComparisonLemmas.{orders_counted, text_counted, text_done}
use Rattle.operate_program.proofs.comparison.field_order.Goals as goal

pub returns : goal.returns
returns c =
    let counted = orders_counted c.args.core.now c.args.at c.args.len c.requires.at c.requires.len in
    let chars = text_counted c.args.text.now in
    sym (text_done (orders_of (places_down c.args.core.now c.args.at c.args.len)) (orders_of_text c.args.text.now)
    c.loop-place.place c.loop-place.order (omega (arith, counted, c.loop-place-test.false, c.max-place-end.ensures))
    (omega (arith, chars, c.loop-place-test.false, c.max-place-end.ensures)))
    ∙ c.loop-place.invariant
