-- What is found in the table is the character with this column, and a character with this column is found.
use Rattle.std.proofs.Common.{◌≡◌, ◌==◌, ℕ, Option, Some, None, IfSome, position, ◌∙◌, ap, sym, subst, Bool}
use Rattle.std.proofs.Common.{if◌then◌else◌}
use Rattle.std.proofs.lemmas.Bool.{lt-ltb}
use Rattle.bcd_1401.specs.CardCode.{column_of, columns}
use Rattle.bcd_1401.proofs.CardCodeLemmas.{of_a_column, own_column}
use Rattle.bcd_1401.proofs.character.Char.from_punch.Goals as goal

pub returns-in-Some-clause-column : goal.returns-in-Some-clause-column
returns-in-Some-clause-column c =
    let found : position (λ each. each == c.args.column) columns
    ≡ Some c.in-Some.code =
    ap (position (λ each. each == c.args.column)) (sym c.column_table.ensures.table) ∙ sym c.in-Some.ensures in
    let is = of_a_column c.in-Some.code c.args.column found in
    let made : c.from_code.result ≡ Some c.in-Some.code =
    c.from_code.ensures
    ∙ ap (λ (b : Bool). let char : Option ℕ = if b then Some c.in-Some.code
    else None in char) (lt-ltb c.in-Some.code 64 is.0) in
    subst (λ (o : Option ℕ). IfSome o (λ char. column_of char ≡ c.args.column)) (sym made) is.1

pub returns-in-Some-clause-each : goal.returns-in-Some-clause-each
returns-in-Some-clause-each c = λ char h e.
    let found : position (λ each. each == c.args.column) columns
    ≡ Some c.in-Some.code =
    ap (position (λ each. each == c.args.column)) (sym c.column_table.ensures.table) ∙ sym c.in-Some.ensures in
    let is = of_a_column c.in-Some.code c.args.column found in
    let own = own_column char c.args.column h e in
    let made : c.from_code.result ≡ Some c.in-Some.code =
    c.from_code.ensures
    ∙ ap (λ (b : Bool). let char : Option ℕ = if b then Some c.in-Some.code
    else None in char) (lt-ltb c.in-Some.code 64 is.0) in
    made ∙ sym found ∙ own

pub returns-in-None-clause-each : goal.returns-in-None-clause-each
returns-in-None-clause-each c = λ char h e.
    c.in-None.ensures ∙ ap (position (λ each. each == c.args.column)) c.column_table.ensures.table
    ∙ own_column char c.args.column h e
