-- As many as there are pass in front.
use Rattle.autocoder_statements.specs.SourceLine.{is_blank}
use Rattle.autocoder_statements.proofs.PrefixLemmas.{all_pass}
use Rattle.autocoder_statements.proofs.columns.are_blank.Goals as goal

pub returns : goal.returns
returns c = rw c.blanks_in_front.ensures.value (all_pass is_blank c.args.text.now)
