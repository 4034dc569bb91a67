-- Numbers of up to eight digits.
use Rattle.std.proofs.Common.{ℕ, ◌^◌, ◌<◌, ◌≤◌, arith}
use Rattle.std.proofs.Math.Nat.{pow-le-pow_right}

pub below_eight : (number i : ℕ) → number < 10 ^ i → i ≤ 8 → number < 10 ^ 8
below_eight number i small few =
    let more : 10 ^ i ≤ 10 ^ 8 = pow-le-pow_right (omega arith) few in omega arith
