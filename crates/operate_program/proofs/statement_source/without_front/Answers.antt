-- The blanks in front are gone.
use Rattle.operate_program.proofs.SourceLemmas.{trimmed_front}
use Rattle.operate_program.proofs.statement_source.without_front.Goals as goal

pub returns : goal.returns
returns c = trimmed_front c.args.text.now c.trim_ascii_start.result.now c.trim_ascii_start.ensures.value
