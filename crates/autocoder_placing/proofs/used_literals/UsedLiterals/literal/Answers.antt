-- What makes it one with others, and those after it.
use Rattle.std.proofs.Common.{◌≡◌, sym, ap}
use Rattle.std.specs.Prelude.{take}
use Rattle.autocoder_placing.specs.Literals.{key_of}
use Rattle.autocoder_placing.specs.UsedLiterals.{Used}
use Rattle.autocoder_placing.proofs.FrontLemmas.{mapped_at}
use Rattle.autocoder_placing.proofs.used_literals.UsedLiterals.literal.Goals as goal

pub returns-clause-key : goal.returns-clause-key
returns-clause-key c =
    let front = c.as_front.result in
    let keys = take front.used front.table.now.literals.keys in
    let all : c.args.self.now.spellings ≡ keys = ap (λ (used : Used). used.spellings) (sym c.as_front.ensures) in
    rw all (mapped_at key_of keys c.args.i c.literal.result c.literal.ensures)
