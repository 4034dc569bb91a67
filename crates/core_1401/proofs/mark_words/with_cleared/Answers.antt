-- The mask has the bits from low to high.
use Rattle.core_1401.proofs.MarkWordLemmas.{cleared_bits}
use Rattle.core_1401.proofs.mark_words.with_cleared.Goals as goal

pub returns : goal.returns
returns c = cleared_bits c.args.word c.args.low c.args.high c.requires.order c.requires.range
