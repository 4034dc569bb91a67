-- Sixteen characters at once: their lanes as a field, and the bits of those that hold a code.
use Rattle.std.proofs.Common.{◌≡◌, ℕ, ◌+◌, ◌-◌, ◌*◌, ◌/◌, ◌%◌, ◌^◌, ◌==◌, ◌<◌, ◌≤◌, Bool, true, false, List, [], ◌∷◌}
use Rattle.std.proofs.Common.{length, map, drop, get_or, ap, sym, refl, ◌∙◌, inl, inr, arith, zero, suc, cond}
use Rattle.std.specs.Prelude.{not}
use Rattle.std.specs.Simd.Lanes.{chunk, mask_l}
use Rattle.std.specs.Int.{leading_zeros, w64}
use Rattle.std.proofs.lemmas.Bool.{cases_eq, cases_lt, ne_eqb}
use Rattle.std.proofs.lemmas.List.{ext_get_or, length-map, length-drop, get_or-map, get_or-drop, drop-map}
use Rattle.std.proofs.Math.Nat.{pow-suc, zero-div}
use lib.Count.{ones}
use Rattle.std.proofs.lemmas.Nat.{leading_length, shr-shr, div-mul-add, pow_below, ones-le}
use Rattle.std.proofs.lemmas.Nat.Bits.{bit_at_above}
use Rattle.std.proofs.lemmas.Simd.{bit_mask_l, get_or-chunk, length-chunk, mask_l-lt, ones-mask_l}
use Rattle.bcd_1401.specs.declared.cell.Cell.{Cell}
use Rattle.core_1401.specs.Storage.{Storage, blank, cell_at}
use Rattle.fields_1401.specs.Across.{chars_across}
use Rattle.fields_1401.specs.Edit.{is_replaceable, replaceable_in, limit_of}
use Rattle.fields_1401.specs.Places.{chars_of}
use Rattle.fields_1401.specs.Suppress.{zero_char}
use Rattle.fields_1401.proofs.AcrossLemmas.{length-across, char_across}
use Rattle.fields_1401.proofs.EditLemmas.{limit_is}
use Rattle.fields_1401.proofs.LendingLemmas.{length-chars_of}

-- what was read of the characters that were lent
pub lanes_lent : (s : Storage) (codes chars : List ℕ) (place at : ℕ) → codes ≡ chunk (place - 15) 16 chars
    → place ≡ at → chars ≡ chars_of s → codes ≡ chunk (at - 15) 16 (chars_of s)
lanes_lent s codes chars place at read here lent =
    read ∙ ap (λ (q : ℕ). chunk (q - 15) 16 chars) here ∙ ap (λ (cs : List ℕ). chunk (at - 15) 16 cs) lent

-- the last lanes are the characters of a field
pub lanes_across : (s : Storage) (at n : ℕ) → 15 ≤ at → n ≤ 16 → at < length s → n ≤ at + 1
    → drop (16 - n) (chunk (at - 15) 16 (chars_of s)) ≡ chars_across s at n
lanes_across s at n least most in_core above =
    let lanes : List ℕ = chunk (at - 15) 16 (chars_of s) in
    let size : length lanes ≡ 16 = length-chunk (at - 15) 16 (chars_of s) (omega (arith, length-chars_of s)) in
    let as_many : length (drop (16 - n) lanes) ≡ n = omega (arith, length-drop (16 - n) lanes, size) in
    ext_get_or 0 (drop (16 - n) lanes) (chars_across s at n)
    (as_many ∙ sym (length-across s at n in_core above))
    (λ i lt. get_or-drop (16 - n) lanes i 0
    ∙ get_or-chunk (at - 15) 16 (chars_of s) (16 - n + i) 0 (omega (arith, as_many, lt))
    ∙ get_or-map (λ (cell : Cell). cell.char) s (at - 15 + (16 - n + i)) blank 0 (omega (arith, as_many, lt))
    ∙ ap (λ q. (cell_at s q).char) (omega (arith, as_many, lt))
    ∙ sym (char_across s at n i in_core above (omega (arith, as_many, lt))))

-- a blank or a zero
both_codes : (char : ℕ) → cond (char == 0) 1 0 + cond (char == 10) 1 0 ≡ cond (is_replaceable char) 1 0
both_codes char =
    elim (cases_eq char 0) [
      | inl none ↦ rw none refl
      | inr other ↦ rw (ne_eqb char 0 other) (omega arith)
    ]

-- blanks and zeros together are what is replaceable
pub mask_sum : (xs : List ℕ) → mask_l (map (λ char. char == 0) xs) + mask_l (map (λ char. char == 10) xs)
    ≡ mask_l (map is_replaceable xs)
mask_sum [] = refl
mask_sum (x ∷ xs) = omega (arith, both_codes x, mask_sum xs)

-- the bits of the last lanes
half : (b : Bool) (m : ℕ) → (cond b 1 0 + 2 * m) / 2 ^ 1 ≡ m
half true m = omega arith
half false m = omega arith

pub mask_drop : (k : ℕ) (ms : List Bool) → mask_l ms / 2 ^ k ≡ mask_l (drop k ms)
mask_drop zero ms = omega arith
mask_drop (suc k) [] = zero-div (2 ^ suc k)
mask_drop (suc k) (b ∷ bs) =
    let more : 1 + k ≡ suc k = omega arith in
    ap (λ (j : ℕ). mask_l (b ∷ bs) / 2 ^ j) (sym more) ∙ sym (shr-shr (mask_l (b ∷ bs)) 1 k)
    ∙ ap (λ (n : ℕ). n / 2 ^ k) (half b (mask_l bs)) ∙ mask_drop k bs

-- the bits of a field that hold what p looks for
pub field_bits : (p : ℕ → Bool) (s : Storage) (at n found : ℕ) → 15 ≤ at → n ≤ 16 → at < length s → n ≤ at + 1
    → found ≡ mask_l (map p (chunk (at - 15) 16 (chars_of s)))
    → found / 2 ^ (16 - n) ≡ mask_l (map p (chars_across s at n))
field_bits p s at n found least most in_core above is =
    let lanes : List ℕ = chunk (at - 15) 16 (chars_of s) in
    ap (λ (m : ℕ). m / 2 ^ (16 - n)) is ∙ mask_drop (16 - n) (map p lanes)
    ∙ ap mask_l (drop-map p (16 - n) lanes)
    ∙ ap (λ (xs : List ℕ). mask_l (map p xs)) (lanes_across s at n least most in_core above)

-- how many there are
pub counted : (s : Storage) (at n found : ℕ) → 15 ≤ at → n ≤ 16 → at < length s → n ≤ at + 1
    → found ≡ mask_l (map (λ char. char == 0) (chunk (at - 15) 16 (chars_of s)))
    + mask_l (map (λ char. char == 10) (chunk (at - 15) 16 (chars_of s)))
    → ones (found / 2 ^ (16 - n)) ≡ replaceable_in (chars_across s at n)
counted s at n found least most in_core above is =
    let word = chars_across s at n in
    ap ones (field_bits is_replaceable s at n found least most in_core above
    (is ∙ mask_sum (chunk (at - 15) 16 (chars_of s))))
    ∙ ones-mask_l is_replaceable word

-- no more than places
pub counted_few : (s : Storage) (at n found : ℕ) → 15 ≤ at → n ≤ 16 → at < length s → n ≤ at + 1
    → found ≡ mask_l (map (λ char. char == 0) (chunk (at - 15) 16 (chars_of s)))
    + mask_l (map (λ char. char == 10) (chunk (at - 15) 16 (chars_of s)))
    → ones (found / 2 ^ (16 - n)) ≤ n
counted_few s at n found least most in_core above is =
    let word = chars_across s at n in
    let bits : List Bool = map is_replaceable word in
    let are : found / 2 ^ (16 - n) ≡ mask_l bits = field_bits is_replaceable s at n found least most in_core above
    (is ∙ mask_sum (chunk (at - 15) 16 (chars_of s))) in
    let size : length bits ≡ n = length-map word is_replaceable ∙ length-across s at n in_core above in
    let small : mask_l bits < 2 ^ n = rw size at (mask_l-lt bits) in
    ones-le n (found / 2 ^ (16 - n)) (omega (arith, are, small))

-- a bit tells whether the place holds a zero
zero_bit : (word : List ℕ) (found k : ℕ) → found ≡ mask_l (map (λ char. char == zero_char) word) → k < length word
    → found / 2 ^ k % 2 ≡ cond (get_or word k 0 == zero_char) 1 0
zero_bit word found k is within =
    ap (λ (m : ℕ). m / 2 ^ k % 2) is ∙ bit_mask_l (map (λ char. char == zero_char) word) k
    ∙ ap (λ (b : Bool). cond b 1 0) (get_or-map (λ char. char == zero_char) word k 0 false within)

bit_false : (b : Bool) → ◌≡◌ {A = ℕ} (cond b 1 0) 0 → not b ≡ true
bit_false true e = absurd (omega (arith, e))
bit_false false e = refl

bit_true : (b : Bool) → ◌≡◌ {A = ℕ} (cond b 1 0) 1 → not b ≡ false
bit_true true e = refl
bit_true false e = absurd (omega (arith, e))

-- the bit below the length of a number is set
top_is_set : (n m : ℕ) → 0 < m → n < 2 ^ m → 2 ^ m ≤ 2 * n + 1 → n / 2 ^ (m - 1) % 2 ≡ 1
top_is_set n zero some below above = absurd (omega (arith, some))
top_is_set n (suc j) some below above =
    let double : 2 ^ suc j ≡ 2 ^ j + 2 ^ j = omega (arith, pow-suc 2 j) in
    let least : 2 ^ j ≤ n = omega (arith, double, above) in
    let whole : n ≡ 1 * 2 ^ j + (n - 2 ^ j) = omega (arith, least) in
    let one : n / 2 ^ j ≡ 1 = ap (λ (q : ℕ). q / 2 ^ j) whole ∙ div-mul-add 1 (2 ^ j) (n - 2 ^ j)
    (omega (arith, least, below, double)) in
    let here : suc j - 1 ≡ j = omega arith in
    ap (λ (k : ℕ). n / 2 ^ k % 2) here ∙ ap (λ (q : ℕ). q % 2) one

-- a number below a power of two is no longer than the power
no_longer : (n m k : ℕ) → n < 2 ^ k → 2 ^ m ≤ 2 * n + 1 → m ≤ k
no_longer n m k below above =
    elim (cases_lt (suc k) m) [
      | inl more ↦ absurd (omega (arith, pow_below (suc k) m more, pow-suc 2 k, below, above))
      | inr le ↦ elim (cases_eq m (suc k)) [
        | inl same ↦ absurd (omega (arith, rw same at above, pow-suc 2 k, below))
        | inr other ↦ omega (arith, le, other)
      ]
    ]

-- the highest bit is that of the last zero
highest : (word : List ℕ) (found m : ℕ) → found ≡ mask_l (map (λ char. char == zero_char) word) → found < 2 ^ m
    → 2 ^ m ≤ 2 * found + 1 → m ≤ length word → limit_of word ≡ m
highest word found m is below above le =
    limit_is word m le
    (λ k high within. bit_false (get_or word k 0 == zero_char)
    (sym (zero_bit word found k is within) ∙ bit_at_above found m k below high))
    (λ some. bit_true (get_or word (m - 1) 0 == zero_char)
    (sym (zero_bit word found (m - 1) is (omega (arith, le, some))) ∙ top_is_set found m some below above))

pub limit_found : (s : Storage) (at n found : ℕ) → 15 ≤ at → n ≤ 16 → at < length s → n ≤ at + 1
    → found ≡ mask_l (map (λ char. char == 10) (chunk (at - 15) 16 (chars_of s)))
    → 64 - leading_zeros w64 (found / 2 ^ (16 - n)) ≡ limit_of (chars_across s at n)
limit_found s at n found least most in_core above is =
    let word = chars_across s at n in
    let bits : List Bool = map (λ char. char == zero_char) word in
    let here : ℕ = found / 2 ^ (16 - n) in
    let are : here ≡ mask_l bits = field_bits (λ char. char == zero_char) s at n found least most in_core above is in
    let size : length bits ≡ n = length-map word (λ char. char == zero_char)
    ∙ length-across s at n in_core above in
    let small : mask_l bits < 2 ^ n = rw size at (mask_l-lt bits) in
    let below : here < 2 ^ n = omega (arith, are, small) in
    let fits : here < 2 ^ 64 = omega (arith, below, pow_below n 64 (omega (arith, most))) in
    let t = leading_length 64 here fits in
    let as_long : 64 - leading_zeros w64 here ≡ t.0 = omega (arith, t.1) in
    as_long ∙ sym (highest word here t.0 are t.2 t.3
    (omega (arith, no_longer here t.0 n below t.3, length-across s at n in_core above)))
