-- The table has the place of each character at its code.
use Rattle.std.proofs.Common.{◌∙◌, arith}
use Rattle.bcd_1401.proofs.CollationLemmas.{order_read, order_of-small, one_at_a_place}
use Rattle.bcd_1401.proofs.character.Char.order.Goals as goal

pub returns-clause-place : goal.returns-clause-place
returns-clause-place c =
    order_read c.order_table.result.now c.from.result c.args.self c.order_table.ensures.table (omega arith)
    (omega arith)

pub returns-clause-range : goal.returns-clause-range
returns-clause-range c =
    let read =
    order_read c.order_table.result.now c.from.result c.args.self c.order_table.ensures.table (omega arith)
    (omega arith) in
    omega (arith, order_of-small c.args.self (omega arith))

pub returns-clause-own : goal.returns-clause-own
returns-clause-own c = λ char h e.
    let read =
    order_read c.order_table.result.now c.from.result c.args.self c.order_table.ensures.table (omega arith)
    (omega arith) in
    one_at_a_place c.args.self char (omega arith) h (e ∙ read)
