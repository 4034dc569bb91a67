-- As many as there are pass in front.
use Rattle.bcd_1401.specs.Digits.{is_digit}
use Rattle.autocoder_statements.proofs.PrefixLemmas.{all_pass}
use Rattle.autocoder_statements.proofs.label.are_digits.Goals as goal

pub returns : goal.returns
returns c = rw c.digits_in_front.ensures.value (all_pass is_digit c.args.text.now)
