-- As many as there are pass in front.
use Rattle.autocoder_statements.specs.Label.{is_letter_or_digit}
use Rattle.autocoder_statements.proofs.PrefixLemmas.{all_pass}
use Rattle.autocoder_statements.proofs.label.are_letters_and_digits.Goals as goal

pub returns : goal.returns
returns c = rw c.letters_and_digits_in_front.ensures.value (all_pass is_letter_or_digit c.args.text.now)
