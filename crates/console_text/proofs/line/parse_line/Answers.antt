-- What is typed for a line says it.
use Rattle.std.proofs.Common.{◌∙◌, ap, arith, length, subst, sym}
use Rattle.std.specs.Prelude.{IfOk}
use Rattle.console_text.specs.declared.line.Line.TheVariants.{Command}
use Rattle.console_text.specs.ConsoleLine.{Said, said_in_words}
use Rattle.console_text.specs.LineText.{CanBeSaid, IsLineOf}
use Rattle.console_text.proofs.CommandTextLemmas.{line_of_command}
use Rattle.console_text.proofs.FitTextLemmas.{fit_short, fit_unknown}
use Rattle.console_text.proofs.LineTextLemmas.{in_words, in_words-one}
use Rattle.console_text.proofs.SayableLemmas.{words_can}
use Rattle.console_text.proofs.line.parse_line.Goals as goal

pub returns-clause-typed : goal.returns-clause-typed
returns-clause-typed c = λ said is. c.parse_words.ensures ∙ in_words said c.args.line.now is.can_be is.typed

pub returns-clause-one : goal.returns-clause-one
returns-clause-one c = λ address is. c.parse_words.ensures ∙ in_words-one address c.args.line.now is.in_range is.typed

pub returns-clause-again : goal.returns-clause-again
returns-clause-again c = λ command can is.
    let line = subst (IsLineOf (Command command)) (sym is) (line_of_command command can) in
    c.parse_words.ensures ∙ in_words (Command command) c.args.line.now can line.typed

pub returns-clause-fit : goal.returns-clause-fit
returns-clause-fit c = λ features is. c.parse_words.ensures ∙ ap said_in_words is ∙ fit_unknown features

pub returns-clause-sayable : goal.returns-clause-sayable
returns-clause-sayable c =
    subst (λ (said : Said). IfOk said CanBeSaid) (sym c.parse_words.ensures) (words_can c.args.line.now)

-- a command's text isn't as long
pub returns-then-line-gt-LINE_LIMIT-clause-again : goal.returns-then-line-gt-LINE_LIMIT-clause-again
returns-then-line-gt-LINE_LIMIT-clause-again c = λ command can is.
    let short = (line_of_command command can).short in absurd (omega (arith, short, ap length is))

-- nor is the text of what fits a machine
pub returns-then-line-gt-LINE_LIMIT-clause-fit : goal.returns-then-line-gt-LINE_LIMIT-clause-fit
returns-then-line-gt-LINE_LIMIT-clause-fit c = λ features is.
    let short = fit_short features in absurd (omega (arith, short, ap length is))
