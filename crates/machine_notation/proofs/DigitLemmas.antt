-- The digits of a number, the last one apart.
use Rattle.std.proofs.Common.{◌≡◌, ℕ, ◌+◌, ◌-◌, ◌/◌, ◌%◌, ◌^◌, ◌<◌, ◌≤◌, inl, inr, List, [], ◌∷◌, ◌++◌, length}
use Rattle.std.proofs.Common.{replicate, sym, ap, ◌∙◌, arith}
use Rattle.std.specs.Fmt.{decimal}
use Rattle.std.proofs.lemmas.Bool.{cases_lt}
use Rattle.std.proofs.lemmas.Fmt.{decimal_step, decimal_digit}
use Rattle.std.proofs.lemmas.List.{append_assoc, replicate_more, length_push}
use Rattle.machine_notation.specs.Digits.{digits_in}

-- in front of its last digit a text of digits has as many zeros as before
zeros_before : (front : List ℕ) (width digit : ℕ)
    → replicate (width - length (front ++ digit ∷ [])) 48 ++ (front ++ digit ∷ [])
    ≡ (replicate (width - 1 - length front) 48 ++ front) ++ digit ∷ []
zeros_before front width digit =
    let fewer : width - length (front ++ digit ∷ []) ≡ width - 1 - length front =
    omega (arith, length_push front digit) in
    ap (λ n. replicate n 48 ++ (front ++ digit ∷ [])) fewer
    ∙ sym (append_assoc (replicate (width - 1 - length front) 48) front (digit ∷ []))

-- a number below ten in one place
pub one_digit : (width number : ℕ) → width ≤ 1 → number < 10 → digits_in width number ≡ (48 + number % 10) ∷ []
one_digit width number narrow small =
    let none : width - 1 ≡ 0 = omega arith in
    let whole : number ≡ number % 10 = omega arith in
    rw (decimal_digit number small, none) (ap (λ n. (48 + n) ∷ []) whole)

-- some zeros, the last one apart
one_zero_more : (places : ℕ) → 0 < places → replicate {A = ℕ} places 48 ≡ replicate (places - 1) 48 ++ 48 ∷ []
one_zero_more places some =
    let one_less : places ≡ places - 1 + 1 = omega arith in
    ap (λ n. replicate n 48) one_less ∙ sym (replicate_more (places - 1) 48)

-- a number below ten in more places: zeros in front of it
only_zeros : (width number : ℕ) → number < 10 → 1 < width
    → digits_in width number ≡ digits_in (width - 1) (number / 10) ++ (48 + number % 10) ∷ []
only_zeros width number small wide =
    let none : number / 10 ≡ 0 = omega arith in
    let whole : number % 10 ≡ number = omega arith in
    let in_front : decimal (number / 10) ≡ 48 ∷ [] = ap decimal none ∙ decimal_digit 0 (omega arith) in
    rw (in_front, whole, decimal_digit number small)
    (ap (λ front. front ++ (48 + number) ∷ []) (one_zero_more (width - 1) (omega arith)))

-- a wider one, or a greater number: the digits of its tenth part, and the last one
pub digits_more : (width number : ℕ) → number < 2 ^ 64 → 0 < (width - 1) + number / 10
    → digits_in width number ≡ digits_in (width - 1) (number / 10) ++ (48 + number % 10) ∷ []
digits_more width number fits more = elim (cases_lt number 10) [
  | inl small ↦ only_zeros width number small (omega arith)
  | inr large ↦ rw (decimal_step number large fits) (zeros_before (decimal (number / 10)) width (48 + number % 10))
]
