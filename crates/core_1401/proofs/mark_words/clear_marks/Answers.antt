-- The marks are in one word, or in two and those between them.
use Rattle.std.proofs.Common.{ℕ, ◌+◌, ◌/◌, List, set, arith}
use Rattle.core_1401.proofs.ClearLemmas.{AreZeroed, cleared_word, cleared_words}
use Rattle.core_1401.proofs.mark_words.clear_marks.Goals as goal

pub returns-then-first-last : goal.returns-then-first-last
returns-then-first-last c =
    cleared_word c.args.words.now c.args.low c.args.high c.with_cleared.result c.requires.order
    (omega (arith, c.if-first-last.true)) c.requires.within c.with_cleared.ensures

pub returns-else-first-last : goal.returns-else-first-last
returns-else-first-last c =
    let words : List ℕ = c.args.words.now in
    let low : ℕ = c.args.low in
    let high : ℕ = c.args.high in
    let middle : List ℕ = c.clear_words.new.words in
    let one : ℕ = c.with_cleared-else-first-last.result in
    let two : ℕ = c.with_cleared-else-first-last-2.result in
    let zeroed : AreZeroed (set words (low / 64 + 1) one) (low / 64 + 2) (high / 64 + 1) middle = record {
      count = c.clear_words.ensures.count;
      inside = λ i from. c.clear_words.ensures.inside i (omega (arith, from));
      below = λ i lt. c.clear_words.ensures.below i (omega (arith, lt));
      above = c.clear_words.ensures.above;
    } in
    cleared_words words middle low high one two (omega (arith, c.if-first-last.false, c.requires.order))
    c.requires.within c.with_cleared-else-first-last.ensures zeroed c.with_cleared-else-first-last-2.ensures
