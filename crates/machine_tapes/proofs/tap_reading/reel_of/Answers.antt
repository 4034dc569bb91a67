-- The records are those of the text.
use Rattle.machine_tapes.proofs.TapWriteLemmas.{tap_again}
use Rattle.machine_tapes.proofs.tap_reading.reel_of.Goals as goal

pub returns-clause-again : goal.returns-clause-again
returns-clause-again c = tap_again c.rewind.new.self.ahead c.rewind.ensures.good c.rewind.ensures.most
