-- Each pair of lanes is compared.
use Rattle.std.proofs.Common.{◌≡◌, ◌<◌, ◌^◌, ◌%◌, eqb, not, ℕ, Bool, List, length, ap, ◌∙◌, arith, w8}
use Rattle.std.specs.Simd.Lanes.{mask_l, zip2}
use Rattle.std.proofs.lemmas.Simd.{length-zip2, mask_l-lt, mask_l-mod, tops_compared}
use Rattle.fields_1401.proofs.lanes.differing_bits.Goals as goal

compared : (xs ys : List ℕ) → length xs ≡ 16 → length ys ≡ 16
    → (mask_l (zip2 (λ x y. not (eqb x y)) xs ys) % 2 ^ 64 ≡ mask_l (zip2 (λ x y. not (eqb x y)) xs ys))
    × (mask_l (zip2 (λ x y. not (eqb x y)) xs ys) < 65536)
compared xs ys these those =
    let bits : List Bool = zip2 (λ x y. not (eqb x y)) xs ys in
    let size : length bits ≡ 16 = length-zip2 (λ x y. not (eqb x y)) xs ys (omega (arith, these, those)) ∙ these in
    let small = rw size at (mask_l-lt bits) in
    (mask_l-mod bits 64 (omega (arith, size)), small)

pub returns-clause-bits : goal.returns-clause-bits
returns-clause-bits c =
    ap (λ ms. mask_l ms % 2 ^ 64) (tops_compared w8 (λ x y. not (eqb x y)) c.args.these c.args.those)
    ∙ (compared c.args.these c.args.those c.requires.these c.requires.those).0

pub returns-clause-range : goal.returns-clause-range
returns-clause-range c =
    let is =
    ap (λ ms. mask_l ms % 2 ^ 64) (tops_compared w8 (λ x y. not (eqb x y)) c.args.these c.args.those)
    ∙ (compared c.args.these c.args.those c.requires.these c.requires.those).0 in
    omega (arith, is, (compared c.args.these c.args.those c.requires.these c.requires.those).1)
