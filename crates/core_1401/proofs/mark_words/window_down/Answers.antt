use Rattle.std.proofs.Common.{rules}
use Rattle.core_1401.proofs.MarkWordLemmas.{window_marks}
use Rattle.core_1401.proofs.mark_words.window_down.Goals as goal

pub returns : goal.returns
returns c = window_marks c.args.words.now c.args.at c.joined-both.result c.joined-both.ensures (search rules)
