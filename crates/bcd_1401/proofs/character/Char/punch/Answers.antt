-- The table has the column of each character at its code.
use Rattle.std.proofs.Common.{◌∙◌, refl, arith}
use Rattle.bcd_1401.specs.CardCode.{column_of}
use Rattle.bcd_1401.proofs.CardCodeLemmas.{column_read, column_of-small, one_character}
use Rattle.bcd_1401.proofs.character.Char.punch.Goals as goal

pub returns-clause-column : goal.returns-clause-column
returns-clause-column c =
    column_read c.column_table.result.now c.from.result c.args.self c.column_table.ensures.table (omega arith)
    (omega arith)

pub returns-clause-range : goal.returns-clause-range
returns-clause-range c =
    let read =
    column_read c.column_table.result.now c.from.result c.args.self c.column_table.ensures.table (omega arith)
    (omega arith) in
    omega (arith, column_of-small c.args.self (omega arith))

pub returns-clause-own : goal.returns-clause-own
returns-clause-own c = λ char h e.
    let read =
    column_read c.column_table.result.now c.from.result c.args.self c.column_table.ensures.table (omega arith)
    (omega arith) in
    one_character c.args.self char (column_of c.args.self) (omega arith) h refl (e ∙ read)
