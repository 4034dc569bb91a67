-- If no pair differs there is no highest.
use Rattle.std.proofs.Common.{◌∙◌, sym}
use Rattle.fields_1401.proofs.CompareLemmas.{none_differs}
use Rattle.fields_1401.proofs.comparison.highest_difference.Goals as goal

pub returns-then-not-chars_differ-clause-value : goal.returns-then-not-chars_differ-clause-value
returns-then-not-chars_differ-clause-value c =
    none_differs c.args.core.now c.args.a c.args.b c.args.n (sym c.chars_differ.ensures ∙ c.if-not-chars_differ.true)
