-- A number that is written is read again.
use Rattle.std.proofs.Common.{◌≡◌, ℕ, ◌+◌, ◌-◌, ◌/◌, ◌%◌, ◌<◌, ◌≤◌, ◌==◌, true, false, inl, inr}
use Rattle.std.proofs.Common.{List, [], ◌∷◌, ◌++◌, length, Some, refl, sym, ap, subst, ◌∙◌, arith}
use Rattle.std.proofs.lemmas.Bool.{and_parts, cases_lt}
use Rattle.std.proofs.lemmas.Bool.Decides.{nat_tests}
use Rattle.std.specs.List.{list_all, prefix_len}
use Rattle.machine_notation.specs.Digits.{digits_in}
use Rattle.machine_notation.proofs.DigitLemmas.{one_digit, digits_more}
use Rattle.bcd_1401.specs.Digits.{is_digit, value_of}
use Rattle.autocoder_statements.specs.Label.{is_letter_or_digit}
use Rattle.autocoder_statements.specs.Numbers.{short_number}
use Rattle.autocoder_statements.specs.Operands.{operand_len}

-- a word of one to five digits that writes a number
pub record IsNumber (word : List ℕ) (value : ℕ) : Type 0 where
  pub digits : list_all is_digit word ≡ true
  pub some : 0 < length word
  pub few : length word ≤ 5
  pub is : value_of word ≡ value

-- the last digit of a number
abbrev digit : ℕ → ℕ
digit number = 48 + number % 10

digit_is : (number : ℕ) → is_digit (digit number) ≡ true
digit_is number = grind (arith, nat_tests)

-- a number of two or three digits, in no more places
in_two : (width number : ℕ) → width ≤ 1 → 10 ≤ number → number < 100
    → digits_in width number ≡ digit (number / 10) ∷ digit number ∷ []
in_two width number narrow least small =
    digits_more width number (omega arith) (omega arith)
    ∙ ap (λ (front : List ℕ). front ++ digit number ∷ [])
    (one_digit (width - 1) (number / 10) (omega arith) (omega arith))

in_three : (width number : ℕ) → width ≤ 1 → 100 ≤ number → number < 1000
    → digits_in width number ≡ digit (number / 10 / 10) ∷ digit (number / 10) ∷ digit number ∷ []
in_three width number narrow least small =
    digits_more width number (omega arith) (omega arith)
    ∙ ap (λ (front : List ℕ). front ++ digit number ∷ [])
    (in_two (width - 1) (number / 10) (omega arith) (omega arith) (omega arith))

-- the last two digits of a number in three places or more, and what is in front of them
last_two : (number : ℕ) → number < 100000
    → digits_in 3 number ≡ (digits_in 1 (number / 10 / 10) ++ digit (number / 10) ∷ []) ++ digit number ∷ []
last_two number fits =
    digits_more 3 number (omega arith) (omega arith)
    ∙ ap (λ (front : List ℕ). front ++ digit number ∷ []) (digits_more 2 (number / 10) (omega arith) (omega arith))

by_front : (number : ℕ) → number < 100000 → (front : List ℕ) → digits_in 1 (number / 10 / 10) ≡ front
    → IsNumber ((front ++ digit (number / 10) ∷ []) ++ digit number ∷ []) number → IsNumber (digits_in 3 number) number
by_front number fits front e is =
    subst (λ (word : List ℕ). IsNumber word number)
    (sym (last_two number fits
    ∙ ap (λ (some : List ℕ). (some ++ digit (number / 10) ∷ []) ++ digit number ∷ []) e)) is

-- a number in three to five digits
pub number_again : (value : ℕ) → value < 100000 → IsNumber (digits_in 3 value) value
number_again value fits = elim (cases_lt value 1000) [
  | inl short ↦ by_front value fits (digit (value / 10 / 10) ∷ []) (one_digit 1 (value / 10 / 10) (omega arith) (omega arith))
      (record {
        digits = rw (digit_is (value / 10 / 10), digit_is (value / 10), digit_is value) refl;
        some = omega arith;
        few = omega arith;
        is = omega arith;
      })
  | inr least ↦ elim (cases_lt value 10000) [
    | inl middling ↦ by_front value fits (digit (value / 10 / 10 / 10) ∷ digit (value / 10 / 10) ∷ [])
        (in_two 1 (value / 10 / 10) (omega arith) (omega arith) (omega arith))
        (record {
          digits =
              rw (
                digit_is (value / 10 / 10 / 10),
                digit_is (value / 10 / 10),
                digit_is (value / 10),
                digit_is value,
              ) refl;
          some = omega arith;
          few = omega arith;
          is = omega arith;
        })
    | inr long ↦ by_front value fits
        (digit (value / 10 / 10 / 10 / 10) ∷ digit (value / 10 / 10 / 10) ∷ digit (value / 10 / 10) ∷ [])
        (in_three 1 (value / 10 / 10) (omega arith) (omega arith) (omega arith))
        (record {
          digits =
              rw (
                digit_is (value / 10 / 10 / 10 / 10),
                digit_is (value / 10 / 10 / 10),
                digit_is (value / 10 / 10),
                digit_is (value / 10),
                digit_is value,
              ) refl;
          some = omega arith;
          few = omega arith;
          is = omega arith;
        })
  ]
]

-- a word that writes a number is that number
pub short_number_of : (word : List ℕ) (value : ℕ) → IsNumber word value → value < 100000
    → short_number word ≡ Some value
short_number_of word value number fits =
    let digits = number.digits in
    let some = number.some in
    let few = number.few in
    let is = number.is in
    grind (arith, nat_tests)

-- a digit is none of the bytes that mean something else
pub no_other : (byte other : ℕ) → is_digit byte ≡ true → other < 48 → (byte == other) ≡ false
no_other byte other h low = grind (arith, nat_tests)

pub no_higher : (byte other : ℕ) → is_digit byte ≡ true → 57 < other → (byte == other) ≡ false
no_higher byte other h high = grind (arith, nat_tests)

-- an operand goes on after digits
pub operand_len-digits : (digits rest : List ℕ) → list_all is_digit digits ≡ true
    → operand_len false (digits ++ rest) ≡ length digits + operand_len false rest
operand_len-digits [] rest h = omega arith
operand_len-digits (byte ∷ digits) rest h =
    let parts = and_parts (is_digit byte) (list_all is_digit digits) h in
    let further = operand_len-digits digits rest parts.1 in
    rw (
      no_other byte 44 parts.0 (omega arith),
      no_other byte 32 parts.0 (omega arith),
      no_higher byte 64 parts.0 (omega arith),
    ) (omega (arith, further))

-- a word goes on after digits
pub prefix_len-digits : (digits rest : List ℕ) → list_all is_digit digits ≡ true
    → prefix_len is_letter_or_digit (digits ++ rest) ≡ length digits + prefix_len is_letter_or_digit rest
prefix_len-digits [] rest h = omega arith
prefix_len-digits (byte ∷ digits) rest h =
    let parts = and_parts (is_digit byte) (list_all is_digit digits) h in
    let further = prefix_len-digits digits rest parts.1 in
    let inside : is_letter_or_digit byte ≡ true = grind (arith, nat_tests, parts.0) in
    rw inside (omega (arith, further))
