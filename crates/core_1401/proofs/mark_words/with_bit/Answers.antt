use Rattle.std.proofs.Common.{◌==◌, ℕ, ap, sym, ◌∙◌}
use Rattle.std.specs.Int.{w64}
use Rattle.std.proofs.lemmas.Nat.Bits.{bit_at_set_same, bit_at_set_other, bit_at_clear_same, bit_at_clear_other}
use Rattle.core_1401.proofs.mark_words.with_bit.Goals as goal

pub returns-then-mark : goal.returns-then-mark
returns-then-mark c =
    let k = c.args.bit in
    record {
      there = ap (λ (n : ℕ). n == 1) (bit_at_set_same w64 c.args.word k c.requires) ∙ sym c.if-mark.true;
      others = λ i lt ne. bit_at_set_other w64 c.args.word k c.requires i ne;
    }

pub returns-else-mark : goal.returns-else-mark
returns-else-mark c =
    let k = c.args.bit in
    record {
      there = ap (λ (n : ℕ). n == 1) (bit_at_clear_same w64 c.args.word k c.requires) ∙ sym c.if-mark.false;
      others = λ i lt ne. bit_at_clear_other w64 c.args.word k c.requires i lt ne;
    }
