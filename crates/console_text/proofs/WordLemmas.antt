-- Words parted by blanks, and numbers among them.
use Rattle.std.proofs.Common.{◌≡◌, ℕ, zero, suc, ◌+◌, ◌-◌, ◌*◌, ◌/◌, ◌%◌, ◌^◌, ◌<◌, ◌≤◌, ◌==◌, Bool, true, false, not}
use Rattle.std.proofs.Common.{cond, List, [], ◌∷◌, ◌++◌, length, drop, replicate, refl, ap, arith, inl, inr}
use Rattle.std.proofs.Common.{length-append}
use Rattle.std.proofs.Math.ListN.{drop_of_length-le}
use Rattle.std.proofs.lemmas.Bool.{and_parts, cases_lt}
use Rattle.std.proofs.lemmas.Bool.Decides.{nat_tests}
use Rattle.std.proofs.lemmas.Fmt.{decimal_digit, decimal_step, decimal_nonempty}
use Rattle.std.proofs.lemmas.List.{length-replicate, take_at}
use Rattle.std.proofs.lemmas.List.Sums.{fold_push}
use Rattle.std.proofs.lemmas.List.Folds.{prefix_len-replicate, list_all-append}
use Rattle.std.proofs.Math.Nat.{pow-succ'}
use Rattle.std.proofs.Math.Seq.{drop-append_seam}
use Rattle.std.specs.Fmt.{decimal}
use Rattle.std.specs.List.{prefix_len, list_all}
use Rattle.std.specs.Prelude.{Ok}
use Rattle.console_text.specs.Words.{blank}
use Rattle.console_text.specs.LineText.{IsParted, IsTypedAs}
use Rattle.console_text.specs.LineText.Part.{Numeral}
use Rattle.console_text.specs.Words.{most_digits}
use Rattle.console_text.specs.Words.{is_blank, without_blanks, word_in, beyond_word, number_of}
use Rattle.bcd_1401.specs.Digits.{is_digit, value_of}

-- whether a byte is a part of a word
abbrev pub in_word : ℕ → Bool
in_word byte = not (is_blank byte)

-- those that pass stand in front of one that doesn't
passing : (q : ℕ → Bool) (xs ys : List ℕ) → list_all q xs ≡ true → prefix_len q ys ≡ 0
    → prefix_len q (xs ++ ys) ≡ length xs
passing q [] ys all none = none
passing q (x ∷ xs) ys all none =
    let here : q x ≡ true = (and_parts (q x) (list_all q xs) all).0 in
    let more : prefix_len q (xs ++ ys) ≡ length xs = passing q xs ys (and_parts (q x) (list_all q xs) all).1 none in
    rw here (omega (arith, more))

all_blank : (n : ℕ) → list_all is_blank (replicate n blank) ≡ true
all_blank zero = refl
all_blank (suc n) = all_blank n

no_blank : (is : Bool) (n : ℕ) → not is ≡ true → cond {A = ℕ} is n 0 ≡ 0
no_blank true n h = cc
no_blank false n h = refl

-- where a word begins
word_first : (word rest : List ℕ) → 0 < length word → list_all in_word word ≡ true
    → prefix_len is_blank (word ++ rest) ≡ 0
word_first [] rest some all = absurd (omega arith)
word_first (byte ∷ word) rest some all =
    let here : not (byte == blank) ≡ true = (and_parts _ _ all).0 in no_blank (byte == blank) _ here

-- where a word ends
parted : (rest : List ℕ) → IsParted rest → prefix_len in_word rest ≡ 0
parted [] h = refl
parted (byte ∷ rest) h = rw h refl

-- in front of a word blanks don't count
in_front_of : (n : ℕ) (word rest : List ℕ) → 0 < length word → list_all in_word word ≡ true
    → without_blanks (replicate n blank ++ (word ++ rest)) ≡ word ++ rest
in_front_of n word rest some all =
    let so_many : prefix_len is_blank (replicate n blank ++ (word ++ rest)) ≡ length (replicate {A = ℕ} n blank) =
    passing is_blank (replicate n blank) (word ++ rest) (all_blank n) (word_first word rest some all) in
    rw (so_many, drop-append_seam)

-- A word follows blanks, and is parted from the rest.
pub record Stands (blanks : ℕ) (word rest line : List ℕ) : Type 0 where
  pub some : 0 < length word
  pub whole : list_all in_word word ≡ true
  pub line_is : line ≡ replicate blanks blank ++ (word ++ rest)
  pub rest_parted : IsParted rest

pub word_in-typed : (blanks : ℕ) (word rest line : List ℕ) → Stands blanks word rest line → word_in line ≡ word
unfolding word_in
word_in-typed blanks word rest line s =
    let all = in_front_of blanks word rest s.some s.whole in
    let end = passing in_word word rest s.whole (parted rest s.rest_parted) in
    rw (s.line_is, all, end) (take_at word rest (length word) refl)

pub beyond_word-typed : (blanks : ℕ) (word rest line : List ℕ) → Stands blanks word rest line → beyond_word line ≡ rest
unfolding beyond_word
beyond_word-typed blanks word rest line s =
    let all = in_front_of blanks word rest s.some s.whole in
    let end = passing in_word word rest s.whole (parted rest s.rest_parted) in
    rw (s.line_is, all, end, drop-append_seam)

none_left : (blanks : ℕ) → drop blanks (replicate {A = ℕ} blanks blank) ≡ []
none_left blanks =
    drop_of_length-le (replicate {A = ℕ} blanks blank) (omega (arith, length-replicate {A = ℕ} blanks blank))

-- among blanks alone there is no word, and nothing after it
pub word_in-blanks : (blanks : ℕ) (line : List ℕ) → line ≡ replicate blanks blank → word_in line ≡ []
unfolding word_in
word_in-blanks blanks line is =
    rw (is, prefix_len-replicate is_blank blanks blank refl, none_left blanks) refl

pub beyond_word-blanks : (blanks : ℕ) (line : List ℕ) → line ≡ replicate blanks blank → beyond_word line ≡ []
unfolding beyond_word
beyond_word-blanks blanks line is =
    rw (is, prefix_len-replicate is_blank blanks blank refl, none_left blanks) refl

-- zeros in front don't count
value_of-zeros : (zeros : ℕ) (digits : List ℕ) → value_of (replicate zeros 48 ++ digits) ≡ value_of digits
value_of-zeros zero digits = refl
value_of-zeros (suc zeros) digits = value_of-zeros zeros digits

value_of-push : (digits : List ℕ) (digit : ℕ) → value_of (digits ++ digit ∷ []) ≡ 10 * value_of digits + (digit - 48)
value_of-push digits digit = fold_push (λ number digit. 10 * number + (digit - 48)) 0 digits digit

value_of-decimal : (k number : ℕ) → number < 10 ^ k → number < 2 ^ 64 → value_of (decimal number) ≡ number
value_of-decimal zero number small fits = rw (decimal_digit number (omega arith)) (omega arith)
value_of-decimal (suc k) number small fits = elim (cases_lt number 10) [
  | inl one ↦ rw (decimal_digit number one) (omega arith)
  | inr more ↦
      let tenth : value_of (decimal (number / 10)) ≡ number / 10 =
      value_of-decimal k (number / 10) (omega (arith, pow-succ' 10 k)) (omega arith) in
      rw (decimal_step number more fits, value_of-push) (omega (arith, tenth))
]

digit_is : (digit : ℕ) → digit < 10 → is_digit (48 + digit) ≡ true
digit_is digit small = grind (arith, nat_tests)

digits_alone : (k number : ℕ) → number < 10 ^ k → number < 2 ^ 64 → list_all is_digit (decimal number) ≡ true
digits_alone zero number small fits = rw (decimal_digit number (omega arith), digit_is number (omega arith)) refl
digits_alone (suc k) number small fits = elim (cases_lt number 10) [
  | inl one ↦ rw (decimal_digit number one, digit_is number one) refl
  | inr more ↦
      let tenth : list_all is_digit (decimal (number / 10)) ≡ true =
      digits_alone k (number / 10) (omega (arith, pow-succ' 10 k)) (omega arith) in
      rw (decimal_step number more fits, list_all-append, tenth, digit_is (number % 10) (omega arith)) refl
]

zeros_alone : (zeros : ℕ) → list_all is_digit (replicate zeros 48) ≡ true
zeros_alone zero = refl
zeros_alone (suc zeros) = zeros_alone zeros

digit_in_word : (byte : ℕ) → is_digit byte ≡ true → in_word byte ≡ true
digit_in_word byte h = grind (arith, nat_tests)

digits_in_word : (word : List ℕ) → list_all is_digit word ≡ true → list_all in_word word ≡ true
digits_in_word [] all = refl
digits_in_word (byte ∷ word) all =
    let here : in_word byte ≡ true = digit_in_word byte (and_parts _ _ all).0 in
    let more : list_all in_word word ≡ true = digits_in_word word (and_parts _ _ all).1 in
    rw (here, more) refl

-- A word is this number.
pub record IsNumeral (number : ℕ) (word : List ℕ) : Type 0 where
  pub some : 0 < length word
  pub whole : list_all in_word word ≡ true
  pub says : number_of word ≡ Ok number

by_tests : (word : List ℕ) (number : ℕ) → 1 ≤ length word → length word ≤ most_digits → list_all is_digit word ≡ true
    → value_of word ≡ number → number_of word ≡ Ok number
unfolding number_of
by_tests word number some few all value = rw (all, value) (grind (arith, nat_tests))

pub numeral : (number : ℕ) (word : List ℕ) → number < 10 ^ most_digits → IsTypedAs (Numeral number) word
    → IsNumeral number word
numeral number word small typed =
    let zeros = typed.0 in
    let fits : number < 2 ^ 64 = omega arith in
    let digits : list_all is_digit word ≡ true =
    rw (typed.1, list_all-append, zeros_alone, digits_alone most_digits number small fits) refl in
    let value : value_of word ≡ number =
    rw (typed.1, value_of-zeros) (value_of-decimal most_digits number small fits) in
    let some : 0 < length word =
    omega (
      arith,
      decimal_nonempty number fits,
      ap length typed.1,
      length-append (replicate {A = ℕ} zeros 48)
          (decimal number),
    ) in
    record { some = some; whole = digits_in_word word digits; says = by_tests word number some typed.2 digits value }
