-- A label that is among the first of the table has its value there; any other has none.
use Rattle.std.proofs.Common.{sym, ◌∙◌, arith}
use Rattle.autocoder_symbols.specs.Symbols.{same_label}
use Rattle.autocoder_placing.proofs.FrontLemmas.{lookup_absent, lookup_beyond, lookup_within}
use Rattle.autocoder_placing.proofs.label_values.Front.get.Goals as goal

pub returns-in-Some : goal.returns-in-Some
returns-in-Some c =
    c.in-Some.ensures.value
    ∙ sym (lookup_within (same_label c.args.label) c.args.self.table.now.entries c.args.self.count c.in-Some.i
    (sym c.in-Some.ensures.index) c.if-i-self.true)

pub returns-in-Some-2 : goal.returns-in-Some-2
returns-in-Some-2 c =
    sym (lookup_beyond (same_label c.args.label) c.args.self.table.now.entries c.args.self.count c.in-Some.i
    (sym c.in-Some.ensures.index) (omega (arith, c.if-i-self.false)))

pub returns-in-Some-2-2 : goal.returns-in-Some-2-2
returns-in-Some-2-2 c =
    sym (lookup_absent (same_label c.args.label) c.args.self.table.now.entries c.args.self.count
    (sym c.in-Some-2.ensures.value))
