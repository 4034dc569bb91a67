-- Sixteen places of a control word at once: lanes that are chosen, the replaceable places right of each, and the field.
use Rattle.std.proofs.Common.{◌≡◌, ℕ, zero, suc, ◌+◌, ◌-◌, ◌*◌, ◌/◌, ◌%◌, ◌^◌, ◌==◌, ◌<◌, ◌≤◌, ◌||◌, nat_lt, nat_le, nat_eq, Bool}
use Rattle.std.proofs.Common.{true, false, cond, if◌then◌else◌, List, [], ◌∷◌, length, map, drop, get_or, replicate, bit_and}
use mir.Val.{zeroes}
use Rattle.std.proofs.Common.{◌&&◌, not, min, eqb, Some, List, w8, T, ltb, leb, take, ap, sym, refl, ◌∙◌, inl, inr, arith}
use lib.Count.{count_trailing_zeros}
use Rattle.std.specs.List.{count_by, prefix_len}
use Rattle.std.specs.Simd.Lanes.{chunk, mask_l, top, zip2, sel_l}
use Rattle.std.proofs.lemmas.Bool.{cases_lt, cases_eq, cases_Bool, ne_eqb, lt-ltb, le-ltb}
use Rattle.std.proofs.lemmas.Bool.Decides.{nat_tests}
use Rattle.std.proofs.lemmas.List.{drop_all, drop-drop, drop-map, ext_get_or, get_or_past, get_or-drop, get_or-map}
use Rattle.std.proofs.lemmas.List.{length-drop, length-map}
use Rattle.std.proofs.lemmas.List.FromFn.{get_or-map-range_with_len}
use Rattle.std.proofs.lemmas.List.Sums.{prefix_len-le-length, prefix_len_passes, prefix_len_stops, sum_by-drop_more}
use Rattle.std.proofs.lemmas.Nat.{and_mask}
use Rattle.std.proofs.lemmas.Simd.{length-zip2, get_or-zip2, get_or-replicate, length-replicate, tops_compared}
use Rattle.std.proofs.lemmas.Simd.{first_set_mask_l, get_or-chunk, length-sel_l, get_or-sel_l, zip2_splat}
use Rattle.bcd_1401.specs.Character.{with_zone_of}
use Rattle.fields_1401.specs.Columns.{later_lanes}
use Rattle.core_1401.specs.Storage.{Storage}
use Rattle.fields_1401.specs.Across.{chars_across, units_unzoned, unzoned_down}
use Rattle.fields_1401.specs.Places.{chars_of}
use Rattle.fields_1401.specs.declared.control_word.ControlWord.{ControlWord}
use Rattle.fields_1401.specs.declared.editing.Rules.{Rules}
use Rattle.fields_1401.specs.declared.sign.Sign.{Sign}
use Rattle.fields_1401.specs.declared.sign.Sign.TheVariants.{Plus, Minus}
use Rattle.fields_1401.specs.Edit.{is_left_over, is_replaceable, is_sign_blanked, is_sign_char, is_significant, kept_char}
use Rattle.fields_1401.specs.Edit.{before_significant, replaceable_beyond, rules_of, shown, sign_at}
use Rattle.fields_1401.specs.Edit.{taken_by, taken_down}
use Rattle.fields_1401.specs.Edit.{unsuppressed, unsuppressed_place}
use Rattle.fields_1401.specs.Suppress.{blank_char}
use Rattle.fields_1401.proofs.AcrossLemmas.{length-across}
use Rattle.fields_1401.proofs.EditLemmas.{before_significant_is, shown_place, taken_down_is, takes_here}
use Rattle.fields_1401.proofs.EditPassLemmas.{blank_left, none_left, none_taken, one_taken, taken_plain}
use Rattle.fields_1401.proofs.LaneLemmas.{lanes_across, mask_drop}
use Rattle.fields_1401.proofs.LendingLemmas.{char_of_cell}
use Rattle.fields_1401.proofs.SixteenLemmas.{table_lane}

-- these lanes where the test of a lane and y holds, and the others elsewhere
abbrev pub chosen : (ℕ → ℕ → Bool) → List ℕ → ℕ → List ℕ → List ℕ → List ℕ
chosen t xs y these others = sel_l (map (top 7) (zip2 (λ a b. cond (t a b) 255 0) xs (replicate 16 y))) these others

pub length-chosen : (t : ℕ → ℕ → Bool) (xs : List ℕ) (y : ℕ) (these others : List ℕ) → length xs ≡ 16
    → length these ≡ 16 → length others ≡ 16 → length (chosen t xs y these others) ≡ 16
length-chosen t xs y these others count long_these long_others =
    let ys : List ℕ = replicate 16 y in
    let tests : length (zip2 t xs ys) ≡ 16 = length-zip2 t xs ys (count ∙ sym (length-replicate 16 y)) ∙ count in
    ap (λ (ms : List Bool). length (sel_l ms these others)) (tops_compared w8 t xs ys)
    ∙ length-sel_l (zip2 t xs ys) these others (tests ∙ sym long_these) (tests ∙ sym long_others) ∙ tests

pub chosen_lane : (t : ℕ → ℕ → Bool) (xs : List ℕ) (y : ℕ) (these others : List ℕ) (i : ℕ) → length xs ≡ 16
    → length these ≡ 16 → length others ≡ 16 → i < 16
    → get_or (chosen t xs y these others) i 0 ≡ cond (t (get_or xs i 0) y) (get_or these i 0) (get_or others i 0)
chosen_lane t xs y these others i count long_these long_others within =
    let ys : List ℕ = replicate 16 y in
    let tests : length (zip2 t xs ys) ≡ 16 = length-zip2 t xs ys (count ∙ sym (length-replicate 16 y)) ∙ count in
    ap (λ (ms : List Bool). get_or (sel_l ms these others) i 0) (tops_compared w8 t xs ys)
    ∙ get_or-sel_l (zip2 t xs ys) these others i 0 (omega (arith, tests, within)) (omega (arith, long_these, within))
    (omega (arith, long_others, within))
    ∙ ap (λ (b : Bool). cond b (get_or these i 0) (get_or others i 0))
    (get_or-zip2 t xs ys i 0 0 false (omega (arith, count, within)) (omega (arith, length-replicate 16 y, within))
    ∙ ap (t (get_or xs i 0)) (get_or-replicate 16 i y 0 within))

-- a blank or a zero
pub either : (char this other : ℕ) → cond (nat_eq char 0) this (cond (nat_eq char 10) this other)
    ≡ (if is_replaceable char then this else other)
either char this other =
    elim (cases_Bool (nat_eq char 0)) [
      | inl is ↦ rw is refl
      | inr isnt ↦ rw isnt refl
    ]

-- a lane's number is below 128
le-leb_false : (i : ℕ) → i < 16 → leb 128 i ≡ false
le-leb_false i lt = grind (arith, nat_tests)

-- the number of a lane n further right, or of none
abbrev pub later_lane : ℕ → ℕ
later_lane i = if nat_lt i 16 then i else 128

-- it is a lane, or none
pub is_lane : (number i : ℕ) → number ≡ later_lane i → T (zeroes 16 w8 number || ltb number 16)
is_lane number i is =
    elim (cases_lt i 16) [
      | inl lt ↦ let here : number ≡ i = is ∙ (rw (lt-ltb i 16 lt) refl) in
          rw here (rw (le-leb_false i lt) (rw (lt-ltb i 16 lt) tt))
      | inr le ↦ let none : number ≡ 128 = is ∙ (rw (le-ltb i 16 le) refl) in rw none tt
    ]

-- what is read of the lanes there
pub lane_read : (lanes : List ℕ) (number i at : ℕ) → i < 16 → length lanes ≡ 16 → number ≡ later_lane at
    → cond (zeroes 16 w8 number) 0 (get_or lanes (16 * ((0 + i) / 16) + number) 0) ≡ get_or lanes at 0
lane_read lanes number i at within size is =
    elim (cases_lt at 16) [
      | inl lt ↦ let here : number ≡ at = is ∙ (rw (lt-ltb at 16 lt) refl) in
          let place : 16 * ((0 + i) / 16) + at ≡ at = omega (arith, within) in
          rw here (rw (le-leb_false at lt) (ap (λ (k : ℕ). get_or lanes k 0) place))
      | inr le ↦ let none : number ≡ 128 = is ∙ (rw (le-ltb at 16 le) refl) in
          rw none (sym (get_or_past lanes at 0 (omega (arith, size, le))))
    ]

-- the numbers as the table has them
pub later_number : (ws : List ℕ) (n i : ℕ) → ws ≡ later_lanes → length ws ≡ 32 → n ≤ 16 → i < 16
    → get_or (chunk 0 16 (take (length ws - n) (drop n ws))) i 0 ≡ later_lane (i + n)
unfolding later_lanes
later_number ws n i is size most within = table_lane ws later_lane n i is size most within

-- how many of the w lanes right of lane i are set
abbrev pub right_sum : List ℕ → ℕ → ℕ → ℕ
right_sum xs zero i = zero
right_sum xs (suc w) i = get_or xs (i + 1) 0 + right_sum xs w (i + 1)

-- first v lanes, and then w more
right_more : (xs : List ℕ) (v w i : ℕ) → right_sum xs (v + w) i ≡ right_sum xs v i + right_sum xs w (i + v)
right_more xs zero w i =
    let same : zero + w ≡ w = omega arith in
    let here : i + zero ≡ i = omega arith in
    omega (arith, ap (λ (k : ℕ). right_sum xs k i) same, ap (right_sum xs w) here)
right_more xs (suc v) w i =
    let more : suc v + w ≡ suc (v + w) = omega arith in
    let here : i + 1 + v ≡ i + suc v = omega arith in
    omega (arith, ap (λ (k : ℕ). right_sum xs k i) more, right_more xs v w (i + 1), ap (right_sum xs w) here)

-- none is right of the last
right_past : (xs : List ℕ) (w i : ℕ) → length xs ≤ i + 1 → right_sum xs w i ≡ 0
right_past xs zero i past = refl
right_past xs (suc w) i past =
    omega (arith, get_or_past xs (i + 1) 0 past, right_past xs w (i + 1) (omega (arith, past)))

right_le : (xs : List ℕ) (w i : ℕ) → ((k : ℕ) → get_or xs k 0 ≤ 1) → right_sum xs w i ≤ w
right_le xs zero i ones = omega arith
right_le xs (suc w) i ones = omega (arith, ones (i + 1), right_le xs w (i + 1) ones)

-- one lane further right
pub right_one : (xs : List ℕ) (i : ℕ) → get_or xs (i + 1) 0 ≡ right_sum xs 1 i
right_one xs i = omega arith

-- twice as many
pub right_twice : (xs counts after : List ℕ) (w : ℕ) → length xs ≡ 16 → length counts ≡ 16 → w ≤ 16
    → ((k : ℕ) → get_or xs k 0 ≤ 1) → ((i : ℕ) → i < 16 → get_or counts i 0 ≡ right_sum xs w i)
    → ((i : ℕ) → i < 16 → get_or after i 0 ≡ (get_or counts i 0 + get_or counts (i + w) 0) % 256)
    → (i : ℕ) → i < 16 → get_or after i 0 ≡ right_sum xs (w + w) i
right_twice xs counts after w size count few ones are sums i within =
    let most : right_sum xs w i ≤ w = right_le xs w i ones in
    elim (cases_lt (i + w) 16) [
      | inl lt ↦ omega (
        arith,
        sums i within,
        are i within,
        are (i + w) lt,
        most,
        right_le xs w (i + w) ones,
        right_more xs w w i,
      )
      | inr le ↦ omega (
        arith,
        sums i within,
        are i within,
        most,
        get_or_past counts (i + w) 0 (omega (arith, count, le)),
        right_more xs w w i,
        right_past xs w (i + w) (omega (arith, size, le)),
      )
    ]

-- all that are right of a lane are as many as there are replaceable places
pub right_all : (word flags : List ℕ) (w i : ℕ) → length word ≡ 16 → length flags ≡ 16
    → ((k : ℕ) → k < 16 → get_or flags k 0 ≡ (if is_replaceable (get_or word k 0) then 1 else 0)) → 15 ≤ i + w
    → right_sum flags w i ≡ replaceable_beyond word i
right_all word flags zero i long size are past =
    sym (ap (count_by is_replaceable) (drop_all (i + 1) word (omega (arith, long, past))))
right_all word flags (suc w) i long size are past =
    elim (cases_lt (i + 1) 16) [
      | inl lt ↦ omega (
        arith,
        are (i + 1) lt,
        right_all word flags w (i + 1) long size are (omega (arith, past)),
        sum_by-drop_more (λ x. cond (is_replaceable x) 1 0) word (i + 1) 0 (omega (arith, long, lt)),
      )
      | inr le ↦ omega (
        arith,
        get_or_past flags (i + 1) 0 (omega (arith, size, le)),
        right_past flags w (i + 1) (omega (arith, size, le)),
        ap (count_by is_replaceable) (drop_all (i + 1) word (omega (arith, long, le))),
      )
    ]

-- a flag is 0 or 1
pub flag_le : (word flags : List ℕ) (k : ℕ) → length flags ≡ 16
    → ((i : ℕ) → i < 16 → get_or flags i 0 ≡ (if is_replaceable (get_or word i 0) then 1 else 0)) → get_or flags k 0 ≤ 1
flag_le word flags k size are =
    elim (cases_lt k 16) [
      | inl lt ↦ elim (cases_Bool (is_replaceable (get_or word k 0))) [
        | inl is ↦ let e : get_or flags k 0 ≡ 1 = are k lt ∙ rw is refl in omega (arith, e)
        | inr other ↦ let e : get_or flags k 0 ≡ 0 = are k lt ∙ rw other refl in omega (arith, e)
      ]
      | inr le ↦ omega (arith, get_or_past flags k 0 (omega (arith, size, le)))
    ]

-- the bits that are left of a lane of A
pub unzoned_lane : (code i : ℕ) → i < 16 → code < 64
    → bit_and code (get_or (63 ∷ 63 ∷ 63 ∷ 63 ∷ 63 ∷ 63 ∷ 63 ∷ 63 ∷ 63 ∷ 63 ∷ 63 ∷ 63 ∷ 63 ∷ 63 ∷ 63 ∷ 15 ∷ []) i 0)
    ≡ (if i == 15 then with_zone_of code 0 else code)
unzoned_lane code i within small =
    ap (bit_and code) (get_or-map-range_with_len (λ k. if k == 15 then 15 else 63) 0 16 i i 0 within (omega arith))
    ∙ (elim (cases_eq i 15) [
      | inl last ↦ rw last (and_mask code 4 ∙ omega arith)
      | inr other ↦ let no : (i == 15) ≡ false = ne_eqb i 15 other in
          rw no (and_mask code 6 ∙ omega (arith, small))
    ])

-- a code that isn't this one, or a blank
abbrev pub blank_if : ℕ → ℕ → ℕ
blank_if code each = if each == code then blank_char else each

pub length-without : (codes shown : List ℕ) (code : ℕ) → length codes ≡ 16 → shown ≡ map (blank_if code) codes
    → length shown ≡ 16
length-without codes shown code size is = ap length is ∙ length-map codes (blank_if code) ∙ size

pub without_lane : (codes shown : List ℕ) (code i : ℕ) → length codes ≡ 16 → i < 16 → shown ≡ map (blank_if code) codes
    → get_or shown i 0 ≡ blank_if code (get_or codes i 0)
without_lane codes shown code i size within is =
    ap (λ (l : List ℕ). get_or l i 0) is ∙ get_or-map (blank_if code) codes i 0 0 (omega (arith, size, within))

-- no part of a sign
pub no_sign : (char : ℕ) → blank_if 32 (blank_if 41 (blank_if 51 char))
    ≡ (if is_sign_char char && is_sign_blanked Plus 0 then blank_char else char)
no_sign char = grind (arith, nat_tests)

pub any_sign : (char : ℕ) → char ≡ (if is_sign_char char && is_sign_blanked Minus 0 then blank_char else char)
any_sign char =
    elim (cases_Bool (is_sign_char char)) [
      | inl is ↦ rw is refl
      | inr isnt ↦ rw isnt refl
    ]

-- what a place shows that isn't replaceable: right of all replaceable ones, and elsewhere
abbrev kept_by : Bool → Bool → Bool → ℕ → ℕ
kept_by left beyond part own =
    if is_replaceable own || (own == 48 || ((own == 27 && (left || (beyond || false))) || (is_sign_char own && part)))
    then blank_char else own

kept_first : (left part : Bool) (own : ℕ) → is_replaceable own ≡ false
    → (if is_sign_char (blank_if 27 (blank_if 48 own)) && part then blank_char else blank_if 27 (blank_if 48 own))
    ≡ kept_by left true part own
kept_first true true own isnt = grind (arith, nat_tests)
kept_first true false own isnt = grind (arith, nat_tests)
kept_first false true own isnt = grind (arith, nat_tests)
kept_first false false own isnt = grind (arith, nat_tests)

kept_later : (left : Bool) (own : ℕ) → is_replaceable own ≡ false
    → (if left then blank_if 27 (blank_if 48 own) else blank_if 48 own) ≡ kept_by left false false own
kept_later true own isnt = grind (arith, nat_tests)
kept_later false own isnt = grind (arith, nat_tests)

-- a part of a sign is blanked right of all replaceable places alone
sign_later : (sign : Sign) (beyond : ℕ) → (beyond == 0) ≡ false → is_sign_blanked sign beyond ≡ false
sign_later Plus beyond later = later
sign_later Minus beyond later = refl

pub kept_lane : (rules : Rules) (own beyond : ℕ) → is_replaceable own ≡ false
    → (if nat_lt beyond 1
    then (if is_sign_char (blank_if 27 (blank_if 48 own)) && is_sign_blanked rules.sign 0 then blank_char
    else blank_if 27 (blank_if 48 own))
    else (if is_left_over rules beyond then blank_if 27 (blank_if 48 own) else blank_if 48 own))
    ≡ kept_char rules (unsuppressed_place own beyond)
kept_lane rules own beyond isnt =
    elim (cases_eq beyond 0) [
      | inl none ↦ rw none (kept_first (is_left_over rules 0) (is_sign_blanked rules.sign 0) own isnt)
      | inr some ↦
          let later : (beyond == 0) ≡ false = ne_eqb beyond 0 some in
          let more : nat_lt beyond 1 ≡ false = le-ltb beyond 1 (omega (arith, some)) in
          rw more (rw later (rw (sign_later rules.sign beyond later) (kept_later (is_left_over rules beyond) own isnt)))
    ]

is_other : (char : ℕ) → not (blank_if 10 char == 0) ≡ is_significant (Some char)
is_other char = grind (arith, nat_tests)

-- the lanes that hold a significant character, a bit each
pub significant_bits : (taken shown : List ℕ) (bits n : ℕ) → length taken ≡ 16 → n ≤ 16
    → shown ≡ map (blank_if 10) taken
    → bits ≡ mask_l (zip2 (λ this that. not (this == that)) shown (replicate 16 0))
    → bits / 2 ^ (16 - n) ≡ mask_l (map (λ code. is_significant (Some code)) (drop (16 - n) taken))
significant_bits taken shown bits n size few is read =
    let none : ℕ = 0 in
    let test : ℕ → Bool = λ code. is_significant (Some code) in
    let other : ℕ → Bool = λ code. not (code == none) in
    let long : length shown ≡ 16 = length-without taken shown 10 size is in
    let same : map other shown ≡ map test taken =
    ext_get_or false (map other shown) (map test taken)
    (length-map shown other ∙ long ∙ sym size ∙ sym (length-map taken test))
    (λ i lt.
    let within : i < 16 = omega (arith, lt, length-map shown other, long) in
    get_or-map other shown i 0 false (omega (arith, long, within))
    ∙ ap other (without_lane taken shown 10 i size within is)
    ∙ is_other (get_or taken i 0)
    ∙ sym (get_or-map test taken i 0 false (omega (arith, size, within)))) in
    ap (λ (m : ℕ). m / 2 ^ (16 - n)) (read ∙ ap mask_l (zip2_splat (λ this that. not (this == that)) shown 16 none long))
    ∙ ap (λ (ms : List Bool). mask_l ms / 2 ^ (16 - n)) same
    ∙ mask_drop (16 - n) (map test taken) ∙ ap mask_l (drop-map test (16 - n) taken)

-- the lowest of them is the first
pub first_significant : (taken : List ℕ) (bits n found : ℕ) → length taken ≡ 16 → n ≤ 16
    → bits ≡ mask_l (map (λ code. is_significant (Some code)) (drop (16 - n) taken))
    → found ≡ min (count_trailing_zeros 64 bits) n
    → found ≡ prefix_len (λ code. not (is_significant (Some code))) (drop (16 - n) taken)
unfolding count_trailing_zeros
first_significant taken bits n found size few are is =
    let test : ℕ → Bool = λ code. is_significant (Some code) in
    let lanes : List ℕ = drop (16 - n) taken in
    let long : length lanes ≡ n = omega (arith, length-drop (16 - n) taken, size, few) in
    let first = first_set_mask_l test lanes n long (omega (arith, few)) in
    let most = prefix_len-le-length (λ code. not (test code)) lanes in
    elim (cases_eq bits 0) [
      | inl none ↦
          let zeros : mask_l (map test lanes) ≡ 0 = sym are ∙ none in
          let all : n ≡ prefix_len (λ code. not (test code)) lanes = rw zeros at first in
          let whole : count_trailing_zeros 64 0 ≡ 64 = refl in
          omega (arith, is, ap (λ (m : ℕ). min (count_trailing_zeros 64 m) n) none, whole, few, all)
      | inr some ↦
          let test_is : eqb (mask_l (map test lanes)) 0 ≡ false =
          ne_eqb (mask_l (map test lanes)) 0 (omega (arith, some, are)) in
          let here : count_trailing_zeros 64 (mask_l (map test lanes)) ≡ prefix_len (λ code. not (test code)) lanes =
          rw test_is at first in
          omega (arith, is, ap (λ (m : ℕ). min (count_trailing_zeros 64 m) n) are, here, most, long)
    ]

past_le : (beyond taken : ℕ) → beyond < taken → nat_le taken beyond ≡ false
past_le beyond taken lt = grind (arith, nat_tests)

le_le : (beyond taken : ℕ) → taken ≤ beyond → nat_le taken beyond ≡ true
le_le beyond taken le = grind (arith, nat_tests)

-- a place right of which there are as many as were taken is left over, if there were too few
pub left_over_lane : (rules : Rules) (beyond this other : ℕ) → rules.taken < rules.replaceable
    → (if nat_lt beyond rules.taken then this else other) ≡ (if is_left_over rules beyond then other else this)
left_over_lane rules beyond this other few =
    elim (cases_lt beyond rules.taken) [
      | inl lt ↦ rw (lt-ltb beyond rules.taken lt) (rw (lt-ltb rules.taken rules.replaceable few)
          (rw (past_le beyond rules.taken lt) refl))
      | inr le ↦ rw (le-ltb beyond rules.taken le) (rw (lt-ltb rules.taken rules.replaceable few)
          (rw (le_le beyond rules.taken le) refl))
    ]

pub none_left_over : (rules : Rules) (beyond this other : ℕ) → rules.replaceable ≤ rules.taken
    → this ≡ (if is_left_over rules beyond then other else this)
none_left_over rules beyond this other all = rw (le-ltb rules.taken rules.replaceable all) refl

not_true : (b : Bool) → not b ≡ true → b ≡ false
not_true false e = refl
not_true true e = sym e

not_false : (b : Bool) → not b ≡ false → b ≡ true
not_false true e = refl
not_false false e = sym e

-- The lanes of sixteen places, of a control word and of A.
pub record AreLanes (s : Storage) (chars control of_a beyond taken kept shown : List ℕ) (word : ControlWord)
    (rules : Rules) : Type 0 where
  pub lent : chars ≡ chars_of s
  pub read : control ≡ chunk (word.b - 15) 16 (chars_of s)
  pub a_in : word.a < length s
  pub b_in : word.b < length s
  pub b_least : 15 ≤ word.b
  pub few : word.len ≤ 16
  pub go_by : rules
      ≡ rules_of (chars_across s word.b word.len) (units_unzoned (chars_across s word.a word.taken)) (sign_at s word.a)
  pub of_a_is : (k : ℕ) → k ≤ 15 → get_or of_a (15 - k) 0 ≡ unzoned_down chars word.a k
  pub beyond_is : (i : ℕ) → i < 16 → get_or beyond i 0 ≡ replaceable_beyond control i
  pub beyond_few : (i : ℕ) → i < 16 → get_or beyond i 0 ≤ 15
  pub taken_is : (i : ℕ) → i < 16 → get_or taken i 0 ≡ (if is_replaceable (get_or control i 0)
      then (if nat_lt (get_or beyond i 0) word.taken then get_or of_a (15 - get_or beyond i 0) 0 else blank_char)
      else blank_char)
  pub kept_is : (i : ℕ) → i < 16 → is_replaceable (get_or control i 0) ≡ false → get_or kept i 0
      ≡ kept_char rules (unsuppressed_place (get_or control i 0) (get_or beyond i 0))
  pub shown_is : (i : ℕ) → i < 16 → get_or shown i 0
      ≡ (if is_replaceable (get_or control i 0) then get_or taken i 0 else get_or kept i 0)

-- a lane's own character, and how many replaceable places are right of it, are those of its place
own_is : (s : Storage) (control : List ℕ) (b m j : ℕ) → control ≡ chunk (b - 15) 16 (chars_of s) → 15 ≤ b → m ≤ 16
    → b < length s → m ≤ b + 1 → j < m → get_or control (16 - m + j) 0 ≡ get_or (chars_across s b m) j 0
own_is s control b m j read least few in_core above within =
    ap (λ (l : List ℕ). get_or l (16 - m + j) 0) read
    ∙ sym (get_or-drop (16 - m) (chunk (b - 15) 16 (chars_of s)) j 0)
    ∙ ap (λ (l : List ℕ). get_or l j 0) (lanes_across s b m least few in_core above)

right_is : (s : Storage) (control : List ℕ) (b m j : ℕ) → control ≡ chunk (b - 15) 16 (chars_of s) → 15 ≤ b → m ≤ 16
    → b < length s → m ≤ b + 1 → j < m
    → replaceable_beyond control (16 - m + j) ≡ replaceable_beyond (chars_across s b m) j
right_is s control b m j read least few in_core above within =
    let lanes : List ℕ = chunk (b - 15) 16 (chars_of s) in
    let next : 16 - m + j + 1 ≡ 16 - m + (j + 1) = omega arith in
    ap (λ (l : List ℕ). replaceable_beyond l (16 - m + j)) read
    ∙ ap (λ (k : ℕ). count_by is_replaceable (drop k lanes)) next
    ∙ ap (count_by is_replaceable) (sym (drop-drop (j + 1) (16 - m) lanes))
    ∙ ap (λ (l : List ℕ). count_by is_replaceable (drop (j + 1) l)) (lanes_across s b m least few in_core above)

-- what a lane takes and shows, by its own character
taken_lane : (chars of_a : List ℕ) (a t own n lane : ℕ) → n ≤ 15
    → ((k : ℕ) → k ≤ 15 → get_or of_a (15 - k) 0 ≡ unzoned_down chars a k)
    → lane ≡ (if is_replaceable own then (if nat_lt n t then get_or of_a (15 - n) 0 else blank_char) else blank_char)
    → is_significant (Some lane) ≡ is_significant (taken_down chars a t own n)
taken_lane chars of_a a t own n lane few down is =
    elim (cases_Bool (is_replaceable own)) [
      | inl may ↦ elim (cases_lt n t) [
        | inl lt ↦ let e : lane ≡ unzoned_down chars a n = is ∙ (rw may (rw (lt-ltb n t lt) (down n few))) in
            ap (λ (char : ℕ). is_significant (Some char)) e ∙ ap is_significant (one_taken chars a t own n may lt)
        | inr le ↦ let e : lane ≡ blank_char = is ∙ (rw may (rw (le-ltb n t le) refl)) in
            ap (λ (char : ℕ). is_significant (Some char)) e ∙ ap is_significant (none_left chars a t own n may le)
      ]
      | inr keeps ↦ let e : lane ≡ blank_char = is ∙ (rw keeps refl) in
          ap (λ (char : ℕ). is_significant (Some char)) e ∙ ap is_significant (none_taken chars a t own n keeps)
    ]

shown_lane : (chars of_a : List ℕ) (rules : Rules) (a t own n taken kept lane : ℕ) → n ≤ 15
    → ((k : ℕ) → k ≤ 15 → get_or of_a (15 - k) 0 ≡ unzoned_down chars a k)
    → taken ≡ (if is_replaceable own then (if nat_lt n t then get_or of_a (15 - n) 0 else blank_char) else blank_char)
    → (is_replaceable own ≡ false → kept ≡ kept_char rules (unsuppressed_place own n))
    → lane ≡ (if is_replaceable own then taken else kept)
    → lane ≡ shown rules (unsuppressed_place own n) (taken_down chars a t own n)
shown_lane chars of_a rules a t own n taken kept lane few down is_taken is_kept is =
    elim (cases_Bool (is_replaceable own)) [
      | inl may ↦ elim (cases_lt n t) [
        | inl lt ↦
            let e : taken ≡ unzoned_down chars a n = is_taken ∙ (rw may (rw (lt-ltb n t lt) (down n few))) in
            is ∙ ap (λ (b : Bool). if b then taken else kept) may ∙ e ∙ sym (taken_plain (unzoned_down chars a n))
            ∙ ap (shown rules (unsuppressed_place own n)) (one_taken chars a t own n may lt)
        | inr le ↦
            let e : taken ≡ blank_char = is_taken ∙ (rw may (rw (le-ltb n t le) refl)) in
            is ∙ ap (λ (b : Bool). if b then taken else kept) may ∙ e ∙ blank_left rules own n may
            ∙ ap (shown rules (unsuppressed_place own n)) (none_left chars a t own n may le)
      ]
      | inr keeps ↦
          is ∙ ap (λ (b : Bool). if b then taken else kept) keeps ∙ is_kept keeps
          ∙ ap (shown rules (unsuppressed_place own n)) (none_taken chars a t own n keeps)
    ]

-- what place j takes
took : (s : Storage) (chars control of_a beyond taken kept shown : List ℕ) (word : ControlWord) (rules : Rules) (j : ℕ)
    → AreLanes s chars control of_a beyond taken kept shown word rules → j < word.len
    → taken_down chars word.a word.taken (get_or control (16 - word.len + j) 0) (get_or beyond (16 - word.len + j) 0)
    ≡ taken_by (chars_across s word.b word.len) (units_unzoned (chars_across s word.a word.taken)) j
took s chars control of_a beyond taken kept shown word rules j are within =
    let i : ℕ = 16 - word.len + j in
    let lt : i < 16 = omega (arith, within, are.few) in
    takes_here (chars_across s word.b word.len) (units_unzoned (chars_across s word.a word.taken)) j
    (get_or control i 0) (get_or beyond i 0)
    (taken_down chars word.a word.taken (get_or control i 0) (get_or beyond i 0))
    (own_is s control word.b word.len j are.read are.b_least are.few are.b_in word.b_above within)
    (are.beyond_is i lt ∙ right_is s control word.b word.len j are.read are.b_least are.few are.b_in word.b_above within)
    (taken_down_is s chars word.a word.taken (get_or control i 0) (get_or beyond i 0) are.a_in word.a_above
    (λ k less. ap (λ (l : List ℕ). get_or l (word.a - k) 0) are.lent
    ∙ char_of_cell s (word.a - k) 0 (omega (arith, are.a_in))))

-- what place j shows
pub shows_at_once : (s : Storage) (chars control of_a beyond taken kept shown : List ℕ) (word : ControlWord)
    (rules : Rules) (j : ℕ) → AreLanes s chars control of_a beyond taken kept shown word rules → j < word.len
    → get_or shown (16 - word.len + j) 0
    ≡ get_or (unsuppressed (chars_across s word.b word.len) (units_unzoned (chars_across s word.a word.taken))
    (sign_at s word.a)) j 0
shows_at_once s chars control of_a beyond taken kept shown word rules j are within =
    let i : ℕ = 16 - word.len + j in
    let lt : i < 16 = omega (arith, within, are.few) in
    let control_size = length-across s word.b word.len are.b_in word.b_above in
    shown_lane chars of_a rules word.a word.taken (get_or control i 0) (get_or beyond i 0) (get_or taken i 0)
    (get_or kept i 0) (get_or shown i 0) (are.beyond_few i lt) are.of_a_is (are.taken_is i lt) (are.kept_is i lt)
    (are.shown_is i lt)
    ∙ shown_place (chars_across s word.b word.len) (units_unzoned (chars_across s word.a word.taken)) (sign_at s word.a) j
    rules (get_or beyond i 0)
    (taken_down chars word.a word.taken (get_or control i 0) (get_or beyond i 0)) (get_or control i 0)
    (omega (arith, control_size, within)) are.go_by
    (are.beyond_is i lt ∙ right_is s control word.b word.len j are.read are.b_least are.few are.b_in word.b_above within)
    (took s chars control of_a beyond taken kept shown word rules j are within)
    (own_is s control word.b word.len j are.read are.b_least are.few are.b_in word.b_above within)

-- the first significant lane is the first significant place
pub significant_at_once : (s : Storage) (chars control of_a beyond taken kept shown : List ℕ) (word : ControlWord)
    (rules : Rules) (count : ℕ) → AreLanes s chars control of_a beyond taken kept shown word rules → length taken ≡ 16
    → count ≡ prefix_len (λ code. not (is_significant (Some code))) (drop (16 - word.len) taken)
    → before_significant (chars_across s word.b word.len) (units_unzoned (chars_across s word.a word.taken)) ≡ count
significant_at_once s chars control of_a beyond taken kept shown word rules count are size is =
    let insignificant : ℕ → Bool = λ code. not (is_significant (Some code)) in
    let m : ℕ = word.len in
    let lanes : List ℕ = drop (16 - m) taken in
    let long : length lanes ≡ m = omega (arith, length-drop (16 - m) taken, size, are.few) in
    let control_size = length-across s word.b m are.b_in word.b_above in
    let most : count ≤ m = omega (arith, is, prefix_len-le-length insignificant lanes, long) in
    let lane : (k : ℕ) → k < m → is_significant (Some (get_or lanes k 0))
    ≡ is_significant (taken_by (chars_across s word.b m) (units_unzoned (chars_across s word.a word.taken)) k) =
    λ k lt. ap (λ (char : ℕ). is_significant (Some char)) (get_or-drop (16 - m) taken k 0)
    ∙ taken_lane chars of_a word.a word.taken (get_or control (16 - m + k) 0) (get_or beyond (16 - m + k) 0)
    (get_or taken (16 - m + k) 0) (are.beyond_few (16 - m + k) (omega (arith, lt, are.few))) are.of_a_is
    (are.taken_is (16 - m + k) (omega (arith, lt, are.few)))
    ∙ ap is_significant (took s chars control of_a beyond taken kept shown word rules k are lt) in
    before_significant_is (chars_across s word.b m) (units_unzoned (chars_across s word.a word.taken)) count
    (omega (arith, most, control_size))
    (λ k lt. sym (lane k (omega (arith, lt, most)))
    ∙ not_true (is_significant (Some (get_or lanes k 0)))
    (prefix_len_passes insignificant lanes k 0 (omega (arith, lt, is))))
    (λ lt. sym (lane count (omega (arith, lt, control_size)))
    ∙ not_false (is_significant (Some (get_or lanes count 0)))
    (ap (λ (k : ℕ). insignificant (get_or lanes k 0)) is
    ∙ prefix_len_stops insignificant lanes 0 (omega (arith, lt, control_size, long, is))))

-- the lanes of A are its characters from the units down
pub chars_below : (chars codes of_a : List ℕ) (low at : ℕ) → low + 15 ≡ at → codes ≡ chunk low 16 chars
    → ((i : ℕ) → i < 16 → get_or of_a i 0
    ≡ (if i == 15 then with_zone_of (get_or codes i 0) 0 else get_or codes i 0)) → (k : ℕ) → k ≤ 15
    → get_or of_a (15 - k) 0 ≡ unzoned_down chars at k
chars_below chars codes of_a low at here read are k few =
    let i : ℕ = 15 - k in
    let char : get_or codes i 0 ≡ get_or chars (at - k) 0 =
    ap (λ (l : List ℕ). get_or l i 0) read ∙ get_or-chunk low 16 chars i 0 (omega arith)
    ∙ ap (λ (q : ℕ). get_or chars q 0) (omega (arith, here, few)) in
    are i (omega arith)
    ∙ ap (λ (code : ℕ). if i == 15 then with_zone_of code 0 else code) char
    ∙ (elim (cases_eq k 0) [
      | inl none ↦ rw none refl
      | inr some ↦
          let isnt : (k == 0) ≡ false = ne_eqb k 0 some in
          let other : (15 - k == 15) ≡ false = ne_eqb (15 - k) 15 (λ e. some (omega (arith, e, few))) in
          rw isnt (rw other refl)
    ])
