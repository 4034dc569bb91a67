-- That is what a trim leaves.
use Rattle.operate_views.proofs.LineLemmas.{trimmed_end}
use Rattle.operate_views.proofs.lines.without_last_blanks.Goals as goal

pub returns : goal.returns
returns c = trimmed_end c.args.text.now c.trim_ascii_end.result.now c.trim_ascii_end.ensures.value
