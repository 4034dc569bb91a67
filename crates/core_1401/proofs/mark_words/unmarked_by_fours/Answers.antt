-- Each of four empty words in turn is the window of its highest place.
use Rattle.std.proofs.Common.{◌≡◌, ℕ, arith, ◌+◌, ◌*◌, ◌/◌, ◌%◌, ◌-◌, ◌==◌, ◌&&◌, Bool, true, slice_index_or}
use Rattle.std.proofs.lemmas.Bool.{and_parts, eqb-true}
use Rattle.core_1401.specs.MarkWords.{NoneBelow}
use Rattle.core_1401.proofs.MarkWordLemmas.{passed_word}
use Rattle.core_1401.proofs.mark_words.unmarked_by_fours.Goals as goal

pub loop-turn-init : goal.loop-turn-init
loop-turn-init c = λ j lt le. c.requires.near j (omega (arith, lt)) le

pub returns-then-not-is_unmarked-clause-none : goal.returns-then-not-is_unmarked-clause-none
returns-then-not-is_unmarked-clause-none c = c.loop-turn.invariant

pub loop-turn-preserved : goal.loop-turn-preserved
loop-turn-preserved c =
    let words = c.args.words.now in
    let at = c.args.at in
    let turn = c.loop-turn.turn in
    let high : ℕ = at / 64 - 4 * turn in
    let base : ℕ = at % 64 + 1 + 64 * (4 * turn) in
    let empty : (k : ℕ) → Bool = λ k. slice_index_or words k 0 == 0 in
    let four = and_parts (empty high && empty (high - 1) && empty (high - 2)) (empty (high - 3)) c.if-not-is_unmarked.false in
    let three = and_parts (empty high && empty (high - 1)) (empty (high - 2)) four.0 in
    let two = and_parts (empty high) (empty (high - 1)) three.0 in
    let zero_at : (k : ℕ) → empty k ≡ true → slice_index_or words k 0 ≡ 0 =
    λ k e. eqb-true (slice_index_or words k 0) 0 e in
    let first : NoneBelow words at (base + 64) =
    passed_word words at base high c.loop-turn.invariant (omega arith) (zero_at high two.0) in
    let second : NoneBelow words at (base + 64 + 64) =
    passed_word words at (base + 64) (high - 1) first (omega arith) (zero_at (high - 1) two.1) in
    let third : NoneBelow words at (base + 64 + 64 + 64) =
    passed_word words at (base + 64 + 64) (high - 2) second (omega arith) (zero_at (high - 2) three.1) in
    let last : NoneBelow words at (base + 64 + 64 + 64 + 64) =
    passed_word words at (base + 64 + 64 + 64) (high - 3) third (omega arith) (zero_at (high - 3) four.1) in
    λ j lt le. last j (omega (arith, lt)) le

pub returns-clause-none : goal.returns-clause-none
returns-clause-none c = λ j lt le. c.loop-turn.invariant j (omega (arith, lt)) le
