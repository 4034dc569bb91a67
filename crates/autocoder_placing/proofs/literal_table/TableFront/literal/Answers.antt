-- The literal there, and those of the front after it.
use Rattle.std.proofs.Common.{◌<◌, sym, arith}
use Rattle.std.proofs.lemmas.List.{length-take}
use Rattle.autocoder_placing.proofs.FrontLemmas.{front_at}
use Rattle.autocoder_placing.proofs.literal_table.TableFront.literal.Goals as goal

pub returns : goal.returns
returns c =
    let keys = c.args.self.table.now.literals.keys in
    let few : c.args.i < c.args.self.used = omega (arith, length-take c.args.self.used keys, c.requires) in
    rw c.literal.ensures (front_at keys c.args.self.used c.args.i c.in-Some.literal.now few (sym c.in-Some.ensures.key))
