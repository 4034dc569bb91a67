-- The size of a source in the wider language is one that CTL has a digit for.
use Rattle.std.proofs.Common.{◌≡◌, ℕ, Option, true, IfSome, sym, subst}
use Rattle.autocoder_statements.specs.Control.{is_control_size}
use Rattle.autocoder_statements.proofs.SizeLemmas.{asked_size}
use Rattle.autocoder_statements.proofs.context.size_asked.Goals as goal

pub returns-in-Ibm-clause-size : goal.returns-in-Ibm-clause-size
returns-in-Ibm-clause-size c =
    subst (λ (asked : Option ℕ). IfSome asked (λ size. is_control_size size ≡ true)) (sym c.first_size.ensures)
    (asked_size c.args.source.now)
