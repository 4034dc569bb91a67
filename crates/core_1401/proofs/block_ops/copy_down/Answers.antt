-- Each character by its place from the units down.
use Rattle.std.proofs.Common.{◌≡◌, ℕ, ◌+◌, ◌-◌, arith, ap, ◌∙◌, slice_index_or}
use Rattle.core_1401.proofs.block_ops.copy_down.Goals as goal

pub returns-clause-copied : goal.returns-clause-copied
returns-clause-copied c = λ i within.
    let up : ℕ = c.args.n - 1 - i in
    let place : c.args.a + 1 - c.args.n + up ≡ c.args.a - i = omega (arith, within) in
    let there : c.args.b - i ≡ c.args.b + 1 - c.args.n + up = omega (arith, within) in
    ap (λ (p : ℕ). slice_index_or c.copy_up.new.chars p 0) there
    ∙ c.copy_up.ensures.copied up (omega (arith, within))
    ∙ ap (λ (p : ℕ). slice_index_or c.args.chars.now p 0) place
