-- What makes a literal one with others is looked for.
use Rattle.autocoder_placing.specs.Literals.{key_of, same_key}
use Rattle.autocoder_placing.proofs.FrontLemmas.{any_mapped}
use Rattle.autocoder_placing.proofs.placing.Placing.is_used.Goals as goal

pub returns-clause-ok : goal.returns-clause-ok
returns-clause-ok c =
    rw (any_mapped key_of (same_key (key_of c.args.literal)) c.args.self.now.literals.spellings) c.contains.ensures.ok
