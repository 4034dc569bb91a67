-- The first that stops it is found, or none does.
use Rattle.std.proofs.Common.{sym, ◌∙◌, ap, below_more, arith}
use Rattle.std.proofs.lemmas.List.Sums.{position_or_len_is}
use Rattle.fields_1401.specs.Across.{chars_across, units_unzoned}
use Rattle.fields_1401.specs.Suppress.{is_figure}
use Rattle.fields_1401.proofs.AcrossLemmas.{length-unzoned_across}
use Rattle.fields_1401.proofs.suppression.before_figures.Goals as goal

pub returns-then-is_figure-clause-value : goal.returns-then-is_figure-clause-value
returns-then-is_figure-clause-value c =
    let xs = units_unzoned (chars_across c.args.core.now c.args.at c.args.n) in
    let size = length-unzoned_across c.args.core.now c.args.at c.args.n c.requires.at c.requires.n in
    sym (position_or_len_is is_figure xs c.loop-i.i 0 (omega arith) c.loop-i.invariant
    (λ _. sym (ap is_figure c.unzoned_char.ensures) ∙ sym c.is_figure.ensures ∙ c.if-is_figure.true))

pub loop-i-preserved : goal.loop-i-preserved
loop-i-preserved c =
    below_more _ _ c.loop-i.invariant (sym (ap is_figure c.unzoned_char.ensures) ∙ sym c.is_figure.ensures
    ∙ c.if-is_figure.false)

pub returns-clause-value : goal.returns-clause-value
returns-clause-value c =
    let xs = units_unzoned (chars_across c.args.core.now c.args.at c.args.n) in
    let size = length-unzoned_across c.args.core.now c.args.at c.args.n c.requires.at c.requires.n in
    sym (position_or_len_is is_figure xs c.args.n 0 (omega arith) (λ k lt. c.loop-i.invariant k (omega arith))
    (λ lt. absurd (omega arith)))
