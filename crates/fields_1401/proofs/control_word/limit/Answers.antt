-- The highest lane of a zero is found.
use Rattle.std.proofs.Common.{ℕ, ◌/◌, ◌^◌, ◌-◌, ◌==◌, List, ap, map, ◌∙◌, arith}
use Rattle.std.specs.Int.{leading_zeros, w64}
use Rattle.std.specs.Simd.Lanes.{mask_l}
use Rattle.fields_1401.proofs.LaneLemmas.{lanes_lent, limit_found}
use Rattle.fields_1401.proofs.control_word.limit.Goals as goal

pub returns : goal.returns
returns c =
    let s = c.args.core.now in
    let lanes = lanes_lent s c.codes_across.result c.chars.result.now c.from.result c.args.at
    c.codes_across.ensures.codes c.from.ensures c.chars.ensures in
    ap (λ (k : ℕ). 64 - leading_zeros w64 (c.bits_of.result / 2 ^ k)) c.from-2.ensures
    ∙ limit_found s c.args.at c.args.n c.bits_of.result (omega arith) (omega arith) c.requires.at c.requires.n
    (c.bits_of.ensures.bits ∙ ap (λ (codes : List ℕ). mask_l (map (λ char. char == 10) codes)) lanes)
