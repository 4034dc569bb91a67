-- How many digits a number has.
use Rattle.std.proofs.Common.{◌≡◌, ℕ, ◌+◌, ◌-◌, ◌<◌, ◌≤◌, ◌^◌, List, ◌++◌, length, replicate, ap, arith}
use Rattle.std.proofs.lemmas.Fmt.{length-decimal-le}
use Rattle.std.proofs.lemmas.List.{length-append, length-replicate}
use Rattle.std.specs.Fmt.{decimal}
use Rattle.machine_notation.specs.Digits.{digits_in}

pub few_digits : (width number : ℕ) → width ≤ 20 → number < 2 ^ 64 → length (digits_in width number) ≤ 20
few_digits width number narrow fits =
    let few : length (decimal number) ≤ 20 = length-decimal-le 20 number (omega arith) (omega (arith, fits)) fits in
    let zeros : List ℕ = replicate (width - length (decimal number)) 48 in
    omega (
      arith,
      narrow,
      few,
      length-append zeros (decimal number),
      length-replicate {A = ℕ} (width - length (decimal number)) 48,
    )

-- so many are added to a text at the most
pub few_added : (old new : List ℕ) (width number : ℕ) → width ≤ 20 → number < 2 ^ 64
    → new ≡ old ++ digits_in width number → length new ≤ length old + 20
few_added old new width number narrow fits is =
    omega (arith, ap length is, length-append old (digits_in width number), few_digits width number narrow fits)

-- there is no room for so many if there is none for a number
pub few_lacking : (capacity len width number : ℕ) → width ≤ 20 → number < 2 ^ 64
    → capacity < len + length (digits_in width number) → capacity < len + 20
few_lacking capacity len width number narrow fits full = omega (arith, full, few_digits width number narrow fits)
