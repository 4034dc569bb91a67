-- Each lane is compared.
use Rattle.std.proofs.Common.{◌≡◌, eqb, map, length, ◌∙◌, arith, w8}
use Rattle.std.proofs.lemmas.List.{length-map}
use Rattle.std.proofs.lemmas.Simd.{bitmask_splat, mask_l-lt}
use Rattle.fields_1401.proofs.lanes.bits_of.Goals as goal

pub returns-clause-bits : goal.returns-clause-bits
returns-clause-bits c = bitmask_splat w8 eqb c.args.codes 16 c.args.code c.requires (omega arith)

pub returns-clause-range : goal.returns-clause-range
returns-clause-range c =
    let found = bitmask_splat w8 eqb c.args.codes 16 c.args.code c.requires (omega arith) in
    let size : length (map (λ x. eqb x c.args.code) c.args.codes) ≡ 16 =
    length-map c.args.codes (λ x. eqb x c.args.code) ∙ c.requires in
    let small = rw size at (mask_l-lt (map (λ x. eqb x c.args.code) c.args.codes)) in
    omega (arith, found, small)
