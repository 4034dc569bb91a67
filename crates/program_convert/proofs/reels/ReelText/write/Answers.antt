-- What is written is read as the records, and their deck is the deck.
use Rattle.program_convert.proofs.ReelTextLemmas.{again_if_written, read_if_written}
use Rattle.program_convert.proofs.reels.ReelText.write.Goals as goal

pub returns-clause-read : goal.returns-clause-read
returns-clause-read g c =
    read_if_written c.args.self.parity c.args.self.cards.now c.write_text.result c.write_text.ensures.whole
    c.write_text.ensures.good c.args.self.few

pub returns-clause-again : goal.returns-clause-again
returns-clause-again g c =
    again_if_written c.args.self.parity c.args.self.cards.now c.write_text.result c.write_text.ensures.whole
