-- What is written is read again, and nothing else is.
use Rattle.std.proofs.Common.{◌∙◌, ap}
use Rattle.console_text.specs.FitText.{fit_of}
use Rattle.console_text.proofs.FitTextLemmas.{fit_again, if_exact}
use Rattle.console_text.proofs.fit_text.parse_fit.Goals as goal

pub returns-clause-again : goal.returns-clause-again
returns-clause-again c = λ features is. c.fit_of.ensures ∙ ap fit_of is ∙ fit_again features

pub returns-clause-exact : goal.returns-clause-exact
returns-clause-exact c = if_exact c.args.text.now c.fit_of.result c.fit_of.ensures
