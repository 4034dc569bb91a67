-- A number with more digits is no less.
use Rattle.std.proofs.Common.{◌≡◌, ℕ, suc, ◌<◌, ◌≤◌, List, [], ◌∷◌, length, drop, get_or, None, drop-cons, arith}
use Rattle.std.proofs.lemmas.Bool.Decides.{nat_tests}
use Rattle.std.specs.Prelude.{fold}
use Rattle.bcd_1401.specs.Digits.{with_digit, value_of}
use Rattle.autocoder_statements.specs.Numbers.{number_between}

pub no_less : (number : ℕ) (digits : List ℕ) → number ≤ fold with_digit number digits
no_less number [] = omega arith
no_less number (digit ∷ digits) = omega (arith, no_less (with_digit number digit) digits)

-- a number with the digit at a place is no more than that with all digits from there on
pub with_one : (number i : ℕ) (word : List ℕ) → i < length word
    → with_digit number (get_or word i 0) ≤ fold with_digit number (drop i word)
with_one number i word inside =
    rw (drop-cons word i 0 inside) (no_less (with_digit number (get_or word i 0)) (drop (suc i) word))

-- a number past the bound
pub too_great : (least most : ℕ) (word : List ℕ) → most < value_of word → number_between least most word ≡ None
too_great least most word past = grind (arith, nat_tests)
