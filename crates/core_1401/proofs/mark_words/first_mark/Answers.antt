-- The first mark is in the window of the place itself.
use Rattle.std.proofs.Common.{ℕ, arith, subst}
use Rattle.core_1401.specs.MarkWords.{IsFirstMark}
use Rattle.core_1401.proofs.MarkWordLemmas.{first_found, window_here}
use Rattle.core_1401.proofs.mark_words.first_mark.Goals as goal

pub returns-then-near-ne0-clause-first : goal.returns-then-near-ne0-clause-first
returns-then-near-ne0-clause-first c =
    let words = c.args.words.now in
    subst (λ (n : ℕ). IsFirstMark words c.args.at n) (omega arith)
    (first_found words c.args.at 0 c.window_down-near.result (λ j lt. absurd (omega (arith, lt)))
    (window_here words c.args.at c.window_down-near.result c.window_down-near.ensures)
    (omega (arith, c.if-near-ne0.true)) c.window_down-near.type_inv)
