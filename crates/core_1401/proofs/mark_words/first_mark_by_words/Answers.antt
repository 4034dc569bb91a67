-- Each whole word below is the window of its highest place.
use Rattle.std.proofs.Common.{ℕ, arith, ◌+◌, ◌*◌, ◌/◌, ◌%◌, ◌-◌}
use Rattle.core_1401.proofs.MarkWordLemmas.{first_found, no_more, whole_word}
use Rattle.core_1401.proofs.mark_words.first_mark_by_words.Goals as goal

pub loop-turn-init : goal.loop-turn-init
loop-turn-init c = c.unmarked_by_fours-turn.ensures.none

pub returns-then-word-ne0-clause-first : goal.returns-then-word-ne0-clause-first
returns-then-word-ne0-clause-first c =
    let words = c.args.words.now in
    let at = c.args.at in
    let k : ℕ = at / 64 - c.loop-turn.turn in
    let base : ℕ = at % 64 + 1 + 64 * c.loop-turn.turn in
    first_found words at base _ c.loop-turn.invariant (whole_word words (at - base) k (omega arith) (omega arith))
    (omega (arith, c.if-word-ne0.true)) ((c.type_inv.words k).fits)

pub loop-turn-preserved : goal.loop-turn-preserved
loop-turn-preserved c =
    let words = c.args.words.now in
    let at = c.args.at in
    let k : ℕ = at / 64 - c.loop-turn.turn in
    let base : ℕ = at % 64 + 1 + 64 * c.loop-turn.turn in
    no_more words at base _ (at % 64 + 1 + 64 * (c.loop-turn.turn + 1)) c.loop-turn.invariant
    (whole_word words (at - base) k (omega arith) (omega arith)) c.if-word-ne0.false (omega arith)
