-- One feature more.
use Rattle.std.proofs.Common.{arith}
use Rattle.console_text.proofs.FitTextLemmas.{one_word_more}
use Rattle.console_text.proofs.fit_text.put_each.Goals as goal

pub loop-feature-preserved : goal.loop-feature-preserved
loop-feature-preserved c =
    one_word_more c.args.features c.loop-feature.feature-index _ c.args.text.now.items c.loop-feature.text.items
    c.put_word.new.text.items (omega arith) c.loop-feature.invariant c.in_ok-put_word.ensures
