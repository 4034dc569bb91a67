-- The marks of both words, from the place's own up.
use Rattle.std.proofs.Common.{rules, ◌∙◌, ◌/◌, ◌%◌, ◌^◌, ℕ, ap, bit_and}
use Rattle.std.specs.Int.{bit_at}
use Rattle.core_1401.proofs.MarkWordLemmas.{window_up_marks}
use Rattle.core_1401.proofs.mark_words.window_up.Goals as goal

pub returns : goal.returns
returns c = λ j within.
    ap (λ (mask : ℕ). bit_at (bit_and (c.joined-both.result / 2 ^ (c.args.at % 64)) mask) j) c.from.ensures
    ∙ window_up_marks c.args.words.now c.args.at c.joined-both.result c.joined-both.ensures (search rules) j within
