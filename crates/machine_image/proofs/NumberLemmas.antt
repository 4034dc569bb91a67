-- Numbers in a given number of digits, written and read.
use Rattle.std.proofs.Common.{◌≡◌, ℕ, ◌+◌, ◌-◌, ◌*◌, ◌/◌, ◌%◌, ◌^◌, ◌<◌, ◌≤◌, ◌&&◌, Bool, true, false, List, [], ◌∷◌}
use Rattle.std.proofs.Common.{◌++◌, length, take, drop, replicate, get_or, zero, suc, Option, Some, None, cond, leb}
use Rattle.std.proofs.Common.{refl, sym, ap}
use Rattle.std.proofs.Common.{subst, ◌∙◌, arith, length-append, length-take}
use Rattle.std.specs.Fmt.{decimal}
use Rattle.std.specs.Option.{option_map}
use Rattle.std.specs.List.{list_all}
use Rattle.std.proofs.lemmas.Bool.{and_from, and_parts, leb-true, le-leb}
use Rattle.std.proofs.lemmas.Bool.Decides.{nat_tests}
use Rattle.std.proofs.lemmas.Fmt.{decimal_by_steps}
use Rattle.std.proofs.lemmas.Option.{cond_some, same_Some}
use Rattle.std.proofs.lemmas.List.{take_more, take_all, take_at, drop_at, take-append-drop, length_push}
use Rattle.std.proofs.lemmas.List.Folds.{list_all-append}
use Rattle.std.proofs.lemmas.List.Sums.{fold_push}
use Rattle.std.proofs.Math.Nat.{pow-succ'}
use Rattle.bcd_1401.specs.Digits.{is_digit, value_of}
use Rattle.machine_notation.specs.Digits.{digits_in, number_in}
use Rattle.machine_notation.proofs.DigitLemmas.{one_digit, digits_more}
use Rattle.machine_notation.proofs.NumberLemmas.{below_eight}
use Rattle.machine_image.specs.Reading.{number_at}

tens_more : (i : ℕ) → 10 ^ suc i ≡ 10 * 10 ^ i
tens_more i = pow-succ' 10 i

-- the last digit, and in front of it those of the tenth part
last_apart : (digits number : ℕ) → 0 < digits → number < 10 ^ 8
    → digits_in (suc digits) number ≡ digits_in digits (number / 10) ++ (48 + number % 10) ∷ []
last_apart digits number some small =
    let less : suc digits - 1 ≡ digits = omega arith in
    digits_more (suc digits) number (omega arith) (omega arith)
    ∙ ap (λ n. digits_in n (number / 10) ++ (48 + number % 10) ∷ []) less

-- a number that has no more digits than are written
pub length-digits_in : (digits number : ℕ) → 0 < digits → digits ≤ 8 → number < 10 ^ digits
    → length (digits_in digits number) ≡ digits
length-digits_in zero number some few small = absurd (omega arith)
length-digits_in (suc zero) number some few small = ap length (one_digit 1 number (omega arith) (omega arith))
length-digits_in (suc (suc n)) number some few small =
    let fits : number < 10 ^ 8 = below_eight number (suc (suc n)) small few in
    let tenth : number / 10 < 10 ^ suc n = omega (arith, tens_more (suc n)) in
    ap length (last_apart (suc n) number (omega arith) fits)
    ∙ omega (
      arith,
      length_push (digits_in (suc n) (number / 10)) (48 + number % 10),
      length-digits_in (suc n) (number / 10) (omega arith) (omega arith) tenth,
    )

value_of-push : (digits : List ℕ) (digit : ℕ) → value_of (digits ++ digit ∷ []) ≡ 10 * value_of digits + (digit - 48)
value_of-push digits digit = fold_push (λ number digit. 10 * number + (digit - 48)) 0 digits digit

-- it is that of its digits
value_of-digits_in : (digits number : ℕ) → 0 < digits → digits ≤ 8 → number < 10 ^ digits
    → value_of (digits_in digits number) ≡ number
value_of-digits_in zero number some few small = absurd (omega arith)
value_of-digits_in (suc zero) number some few small =
    let value : 10 * 0 + (48 + number % 10 - 48) ≡ number = omega arith in
    ap value_of (one_digit 1 number (omega arith) (omega arith)) ∙ value
value_of-digits_in (suc (suc n)) number some few small =
    let fits : number < 10 ^ 8 = below_eight number (suc (suc n)) small few in
    let tenth : number / 10 < 10 ^ suc n = omega (arith, tens_more (suc n)) in
    ap value_of (last_apart (suc n) number (omega arith) fits)
    ∙ value_of-push (digits_in (suc n) (number / 10)) (48 + number % 10)
    ∙ omega (arith, value_of-digits_in (suc n) (number / 10) (omega arith) (omega arith) tenth)

last_is_digit : (number : ℕ) → number < 10 → list_all is_digit ((48 + number) ∷ []) ≡ true
last_is_digit number small = grind (arith, nat_tests)

decimal_has_digits : (number : ℕ) → number < 2 ^ 64 → list_all is_digit (decimal number) ≡ true
decimal_has_digits =
    decimal_by_steps (λ number digits. list_all is_digit digits ≡ true) (λ number small. last_is_digit number small)
    (λ number digits large all. list_all-append is_digit digits ((48 + number % 10) ∷ [])
    ∙ and_from _ _ all (last_is_digit (number % 10) (omega arith)))

zeros_are_digits : (n : ℕ) → list_all is_digit (replicate n 48) ≡ true
zeros_are_digits zero = refl
zeros_are_digits (suc n) = zeros_are_digits n

-- only digits are written
pub digits-digits_in : (digits number : ℕ) → number < 2 ^ 64 → list_all is_digit (digits_in digits number) ≡ true
digits-digits_in digits number fits =
    list_all-append is_digit (replicate (digits - length (decimal number)) 48) (decimal number)
    ∙ and_from _ _ (zeros_are_digits (digits - length (decimal number))) (decimal_has_digits number fits)

-- what digits are
record AreDigits (digits : ℕ) (text : List ℕ) : Type 0 where
  text_is : text ≡ digits_in digits (value_of text)
  small : value_of text < 10 ^ digits

digit_bounds : (digit : ℕ) → list_all is_digit (digit ∷ []) ≡ true → (48 ≤ digit) × (digit ≤ 57)
digit_bounds digit h = (grind (arith, nat_tests), grind (arith, nat_tests))

one_is : (digit : ℕ) → 48 ≤ digit → digit ≤ 57 → AreDigits 1 (digit ∷ [])
one_is digit low high =
    let value : 10 * 0 + (digit - 48) < 10 = omega arith in
    let same : digit ≡ 48 + (10 * 0 + (digit - 48)) % 10 = omega arith in
    record {
      text_is = ap (λ n. n ∷ []) same ∙ sym (one_digit 1 (10 * 0 + (digit - 48)) (omega arith) value);
      small = value;
    }

digits_push : (digits : ℕ) (front : List ℕ) (digit : ℕ) → 0 < digits → digits < 8 → AreDigits digits front
    → 48 ≤ digit → digit ≤ 57 → AreDigits (suc digits) (front ++ digit ∷ [])
digits_push digits front digit some few so_far low high =
    let number = value_of (front ++ digit ∷ []) in
    let value = value_of-push front digit in
    let tenth : number / 10 ≡ value_of front = omega (arith, value) in
    let last : 48 + number % 10 ≡ digit = omega (arith, value) in
    let small : number < 10 ^ suc digits = omega (arith, value, so_far.small, tens_more digits) in
    record {
      text_is =
          ap (λ (more : List ℕ). more ++ digit ∷ []) (so_far.text_is ∙ ap (digits_in digits) (sym tenth))
          ∙ ap (λ n. digits_in digits (number / 10) ++ n ∷ []) (sym last)
          ∙ sym (last_apart digits number some (below_eight number (suc digits) small (omega arith)));
      small = small;
    }

-- digits are those of their number
are_digits : (digits : ℕ) (text : List ℕ) → 0 < digits → digits ≤ 8 → length text ≡ digits
    → list_all is_digit text ≡ true → AreDigits digits text
are_digits zero text some few len all = absurd (omega arith)
are_digits (suc zero) [] some few len all = absurd (omega arith)
are_digits (suc zero) (digit ∷ []) some few len all =
    let bounds = digit_bounds digit all in one_is digit bounds.0 bounds.1
are_digits (suc zero) (digit ∷ next ∷ text) some few len all = absurd (omega arith)
are_digits (suc (suc n)) text some few len all =
    let digits : ℕ = suc n in
    let front : List ℕ = take digits text in
    let last = get_or text digits 0 in
    let parts : text ≡ front ++ last ∷ [] = sym (take_all (digits + 1) text (omega arith))
    ∙ take_more text digits 0 (omega arith) in
    let split : (list_all is_digit front && list_all is_digit (last ∷ []))
    ≡ true = sym (list_all-append is_digit front (last ∷ [])) ∙ (ap (list_all is_digit) (sym parts) ∙ all) in
    let bounds = digit_bounds last (and_parts (list_all is_digit front) _ split).1 in
    let so_far =
    are_digits (suc n) front (omega arith) (omega arith) (omega (arith, length-take digits text))
    (and_parts _ (list_all is_digit (last ∷ [])) split).0 in
    subst (AreDigits (suc digits)) (sym parts)
    (digits_push digits front last (omega arith) (omega arith) so_far bounds.0 bounds.1)

-- a number that is read is at the front, in its digits
pub record Takes (digits : ℕ) (text : List ℕ) (found : ℕ × List ℕ) : Type 0 where
  pub parts : text ≡ digits_in digits found.0 ++ found.1
  pub small : found.0 < 10 ^ digits

taken : (number : Option ℕ) (rest : List ℕ) (found : ℕ × List ℕ) → option_map (λ n. (n, rest)) number ≡ Some found
    → (number ≡ Some found.0) × (rest ≡ found.1)
taken None rest found h = absurd cc
taken (Some n) rest found h =
    let pair : (n, rest) ≡ found = same_Some (n, rest) found h in
    (ap (λ (p : ℕ × List ℕ). Some p.0) pair, ap (λ (p : ℕ × List ℕ). p.1) pair)

if_some : {A : Type 0} (b : Bool) (o : Option A) (x : A) → cond b o None ≡ Some x → (b ≡ true) × (o ≡ Some x)
if_some true o x h = (refl, h)
if_some false o x h = absurd cc

pub number_takes : (digits : ℕ) (text : List ℕ) (found : ℕ × List ℕ) → 0 < digits → digits ≤ 8
    → number_at digits text ≡ Some found → Takes digits text found
unfolding number_at number_in
number_takes digits text found some few h =
    let long = if_some (leb digits (length text)) _ found h in
    let parts = taken (number_in (take digits text)) (drop digits text) found long.1 in
    let all = cond_some (list_all is_digit (take digits text)) (value_of (take digits text)) found.0 parts.0 in
    let enough : digits ≤ length text = leb-true _ _ long.0 in
    let are = are_digits digits (take digits text) some few (omega (arith, length-take digits text)) all.0 in
    let front : take digits text ≡ digits_in digits found.0 = are.text_is ∙ ap (digits_in digits) all.1 in
    record {
      parts =
          sym (take-append-drop digits text)
          ∙ (ap (λ (more : List ℕ). more ++ drop digits text) front
          ∙ ap (λ (more : List ℕ). digits_in digits found.0 ++ more) parts.1);
      small = subst (λ n. n < 10 ^ digits) all.1 are.small;
    }

-- a number that is written is read again, whatever follows
pub number_again : (digits number : ℕ) (rest : List ℕ) → 0 < digits → digits ≤ 8 → number < 10 ^ digits
    → number_at digits (digits_in digits number ++ rest) ≡ Some (number, rest)
unfolding number_at number_in
number_again digits number rest some few small =
    let text = digits_in digits number in
    let fits : number < 10 ^ 8 = below_eight number digits small few in
    let many = length-digits_in digits number some few small in
    let long : leb digits (length (text ++ rest)) ≡ true = le-leb _ _ (omega (arith, length-append text rest, many)) in
    rw (
      long,
      take_at text rest digits many,
      drop_at text rest digits many,
      digits-digits_in digits number (omega arith),
      value_of-digits_in digits number some few small,
    )
