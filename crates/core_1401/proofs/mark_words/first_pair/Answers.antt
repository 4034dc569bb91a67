-- The first mark below either is in one of the windows of the places themselves.
use Rattle.std.proofs.Common.{ℕ, ◌-◌, ap, arith, subst}
use Rattle.std.proofs.lemmas.Nat.{or_lt}
use Rattle.std.proofs.lemmas.Nat.Bits.{bit_at_or, bit_at-zero}
use Rattle.std.specs.Int.{bit_at}
use Rattle.core_1401.specs.MarkWords.{IsFirstPair}
use Rattle.core_1401.proofs.MarkWordLemmas.{first_pair_found, window_here}
use Rattle.core_1401.proofs.mark_words.first_pair.Goals as goal

pub returns-then-near-ne0 : goal.returns-then-near-ne0
returns-then-near-ne0 c =
    let words = c.args.words.now in
    let v = c.window_down-near_a.result in
    let w = c.window_down-near_b.result in
    record {
      first = subst (λ (n : ℕ). IsFirstPair words c.args.a c.args.b n) (omega arith)
          (first_pair_found words c.args.a c.args.b 0 v w (λ j lt. absurd (omega (arith, lt)))
          (window_here words c.args.a v c.window_down-near_a.ensures)
          (window_here words c.args.b w c.window_down-near_b.ensures) (omega (arith, c.if-near-ne0.true))
          (or_lt 64 v w c.window_down-near_a.type_inv c.window_down-near_b.type_inv));
    }

-- if neither window has a mark
pub first_pair_by_words-requires-clause-near_a : goal.first_pair_by_words-requires-clause-near_a
first_pair_by_words-requires-clause-near_a c = λ j lt le.
    omega (
      arith,
      c.window_down-near_a.ensures j lt le,
      bit_at_or c.window_down-near_a.result c.window_down-near_b.result (63 - j),
      ap (λ (n : ℕ). bit_at n (63 - j)) c.if-near-ne0.false,
      bit_at-zero (63 - j),
    )

pub first_pair_by_words-requires-clause-near_b : goal.first_pair_by_words-requires-clause-near_b
first_pair_by_words-requires-clause-near_b c = λ j lt le.
    omega (
      arith,
      c.window_down-near_b.ensures j lt le,
      bit_at_or c.window_down-near_a.result c.window_down-near_b.result (63 - j),
      ap (λ (n : ℕ). bit_at n (63 - j)) c.if-near-ne0.false,
      bit_at-zero (63 - j),
    )
