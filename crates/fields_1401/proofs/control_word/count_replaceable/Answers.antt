-- The lanes of blanks and of zeros are counted.
use Rattle.std.proofs.Common.{◌≡◌, ℕ, ◌+◌, ◌/◌, ◌^◌, ◌≤◌, ◌==◌, List, ap, map, ◌∙◌, arith, subst, sym}
use lib.Count.{ones}
use Rattle.std.specs.Simd.Lanes.{mask_l}
use Rattle.fields_1401.proofs.LaneLemmas.{lanes_lent, counted, counted_few}
use Rattle.fields_1401.proofs.control_word.count_replaceable.Goals as goal

pub returns-clause-value : goal.returns-clause-value
returns-clause-value c =
    let s = c.args.core.now in
    let found : ℕ = c.bits_of.result + c.bits_of-2.result in
    let codes : List ℕ = c.codes_across-codes.result in
    let lanes = lanes_lent s codes c.chars.result.now c.from.result c.args.at
    c.codes_across-codes.ensures.codes c.from.ensures c.chars.ensures in
    let both : found ≡ mask_l (map (λ char. char == 0) codes) + mask_l (map (λ char. char == 10) codes) =
    ap (λ (n : ℕ). n + c.bits_of-2.result) c.bits_of.ensures.bits
    ∙ ap (λ (n : ℕ). mask_l (map (λ char. char == 0) codes) + n) c.bits_of-2.ensures.bits in
    ap (λ (k : ℕ). ones (found / 2 ^ k)) c.from-2.ensures
    ∙ counted s c.args.at c.args.n found (omega arith) (omega arith) c.requires.at c.requires.n
    (both ∙ ap (λ (cs : List ℕ). mask_l (map (λ char. char == 0) cs) + mask_l (map (λ char. char == 10) cs)) lanes)

pub returns-clause-bound : goal.returns-clause-bound
returns-clause-bound c =
    let s = c.args.core.now in
    let found : ℕ = c.bits_of.result + c.bits_of-2.result in
    let codes : List ℕ = c.codes_across-codes.result in
    let lanes = lanes_lent s codes c.chars.result.now c.from.result c.args.at
    c.codes_across-codes.ensures.codes c.from.ensures c.chars.ensures in
    let both : found ≡ mask_l (map (λ char. char == 0) codes) + mask_l (map (λ char. char == 10) codes) =
    ap (λ (n : ℕ). n + c.bits_of-2.result) c.bits_of.ensures.bits
    ∙ ap (λ (n : ℕ). mask_l (map (λ char. char == 0) codes) + n) c.bits_of-2.ensures.bits in
    let few = counted_few s c.args.at c.args.n found (omega arith) (omega arith) c.requires.at c.requires.n
    (both ∙ ap (λ (cs : List ℕ). mask_l (map (λ char. char == 0) cs) + mask_l (map (λ char. char == 10) cs)) lanes) in
    subst (λ (k : ℕ). ones (found / 2 ^ k) ≤ c.args.n) (sym c.from-2.ensures) few
