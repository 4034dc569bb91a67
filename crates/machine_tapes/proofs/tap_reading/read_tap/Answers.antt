-- By the grammar of the text.
use Rattle.machine_tapes.proofs.GrammarLemmas.{is_found}
use Rattle.machine_tapes.proofs.TapWriteLemmas.{tap_read}
use Rattle.machine_tapes.proofs.tap_reading.read_tap.Goals as goal

pub returns-clause-found : goal.returns-clause-found
returns-clause-found c =
    is_found c.reel_of.result _ c.args.text.now (λ i. (c.type_inv.text i).fits) c.reel_of.ensures.whole

pub returns-clause-taken : goal.returns-clause-taken
returns-clause-taken c = λ records of few. tap_read c.args.text.now records of few
