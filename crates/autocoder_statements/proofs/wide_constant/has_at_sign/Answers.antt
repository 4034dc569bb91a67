-- Fewer than all come before the first.
use Rattle.autocoder_statements.specs.Constant.{is_at_sign}
use Rattle.autocoder_statements.proofs.PrefixLemmas.{some_passes}
use Rattle.autocoder_statements.proofs.wide_constant.has_at_sign.Goals as goal

pub returns : goal.returns
returns c = rw c.bytes_before.ensures.value (some_passes is_at_sign c.args.text.now)
