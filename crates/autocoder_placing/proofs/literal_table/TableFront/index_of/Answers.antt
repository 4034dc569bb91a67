-- A literal that is among the first has its place there; any other has none.
use Rattle.std.proofs.Common.{sym}
use Rattle.autocoder_placing.specs.UsedLiterals.{is_one}
use Rattle.autocoder_placing.proofs.FrontLemmas.{position_absent, position_beyond, position_within}
use Rattle.autocoder_placing.proofs.literal_table.TableFront.index_of.Goals as goal

pub returns-in-Some : goal.returns-in-Some
returns-in-Some c =
    sym (position_within (is_one c.args.literal.now) c.args.self.table.now.literals.keys c.args.self.used c.in-Some.i
    (sym c.in-Some.ensures.index) c.if-i-self.true)

pub returns-in-Some-2 : goal.returns-in-Some-2
returns-in-Some-2 c =
    sym (position_beyond (is_one c.args.literal.now) c.args.self.table.now.literals.keys c.args.self.used c.in-Some.i
    (sym c.in-Some.ensures.index) c.if-i-self.false)

pub returns-in-Some-2-2 : goal.returns-in-Some-2-2
returns-in-Some-2-2 c =
    sym (position_absent (is_one c.args.literal.now) c.args.self.table.now.literals.keys c.args.self.used
    (sym c.in-Some-2.ensures.index))
