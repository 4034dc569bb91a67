-- A character's code is below 64, so it has a graphic of its own.
use Rattle.std.proofs.Common.{arith}
use Rattle.bcd_1401.proofs.GraphicLemmas.{own_place}
use Rattle.bcd_1401.proofs.character.Char.graphic.Goals as goal

pub returns-clause-own : goal.returns-clause-own
returns-clause-own c = own_place c.args.self (omega (arith, c.code.ensures.value, c.code.ensures.range))
