-- The places of a control word, and what they take.
use Rattle.std.proofs.Common.{◌≡◌, ◌≢◌, bit_and, ◌/◌, ◌^◌, set, ℕ, ◌+◌, ◌-◌, ◌<◌, ◌≤◌, ◌⊎◌, ◌==◌, Bool, true, false}
use Rattle.std.proofs.Common.{List, Option, Some, None, min}
use Rattle.std.proofs.Common.{length, get_or, map, drop, cond, ap, sym, ◌∙◌, inl, inr, arith}
use Rattle.std.specs.List.{count_by, range_with_len}
use Rattle.std.specs.Prelude.{not, nat_lt, ◌&&◌, ◌||◌, if◌then◌else◌}
use Rattle.std.proofs.lemmas.Bool.{cases_lt, cases_Bool, lt-ltb, le-ltb, and_from, and_left, and_right, cond-true}
use Rattle.std.proofs.lemmas.Bool.{cond-false}
use Rattle.std.proofs.lemmas.Bool.Decides.{nat_tests}
use Rattle.std.proofs.lemmas.List.FromFn.{get_or-map-range_with_len, length-map-range_with_len}
use Rattle.std.proofs.lemmas.List.Sums.{sum_by-drop_more, position_or_len_is, suffix_len_is, fails_before_first}
use Rattle.bcd_1401.specs.declared.cell.Cell.{Cell}
use Rattle.core_1401.specs.Storage.{Storage, cell_at, with_char}
use Rattle.fields_1401.specs.Across.{chars_across, units_unzoned, char_to, with_across, IsSameOutside, IsUnmarked}
use Rattle.fields_1401.specs.Edit.{is_replaceable, taken_from, taken_by, replaceable_beyond}
use Rattle.fields_1401.specs.Edit.{is_significant, before_significant, limit_of, is_suppressed, is_shared, shown}
use Rattle.fields_1401.specs.Edit.{shown_at, edited, taken_down, unsuppressed_at, unsuppressed, without_zero}
use Rattle.fields_1401.specs.Edit.{replaceable_in, rules_of, sign_at, suppressed_to, unsuppressed_place}
use Rattle.fields_1401.specs.Edit.{taken_char, is_left_over, is_sign_char, is_sign_blanked}
use Rattle.fields_1401.specs.declared.editing.Rules.{Rules}
use Rattle.fields_1401.specs.Places.{is_within, with_chars, with_all_chars, chars_of}
use Rattle.fields_1401.specs.declared.sign.Sign.{Sign}
use Rattle.fields_1401.specs.Suppress.{zero_char}
use Rattle.fields_1401.proofs.AcrossLemmas.{across_again, across_outside, across_unmarked, length-across}
use Rattle.fields_1401.proofs.AcrossLemmas.{length-unzoned_across, unzoned_down_is}
use Rattle.fields_1401.proofs.LendingLemmas.{lent_at_first, char_lent, lent-set}
use Rattle.fields_1401.proofs.PlacesLemmas.{cell_at-with_chars, length-with_chars, with_chars_changed, with_chars_same}

-- a place is one of those from it on, if it is replaceable
pub replaceable_here : (word : List ℕ) (i : ℕ) → i < length word → is_replaceable (get_or word i 0) ≡ true
    → count_by is_replaceable (drop i word) ≡ count_by is_replaceable (drop (i + 1) word) + 1
replaceable_here word i within e =
    sum_by-drop_more (λ x. cond (is_replaceable x) 1 0) word i 0 within
    ∙ ap (λ b. cond b 1 0 + count_by is_replaceable (drop (i + 1) word)) e ∙ omega arith

pub replaceable_outside : (word : List ℕ) (i : ℕ) → i < length word → is_replaceable (get_or word i 0) ≡ false
    → count_by is_replaceable (drop i word) ≡ count_by is_replaceable (drop (i + 1) word)
replaceable_outside word i within e =
    sum_by-drop_more (λ x. cond (is_replaceable x) 1 0) word i 0 within
    ∙ ap (λ b. cond b 1 0 + count_by is_replaceable (drop (i + 1) word)) e ∙ omega arith

-- a replaceable place with fewer than t after it takes one of t characters
pub takes_one : (digits : List ℕ) (own beyond t : ℕ) → length digits ≡ t → is_replaceable own ≡ true → beyond < t
    → Some (get_or digits (t - 1 - beyond) 0) ≡ taken_from digits own beyond
takes_one digits own beyond t size replaceable lt =
    ap (λ n. Some (get_or digits (n - 1 - beyond) 0)) (sym size)
    ∙ sym (cond-true (is_replaceable own
    && nat_lt beyond (length digits)) _ _
    (and_from (is_replaceable own) (nat_lt beyond (length digits)) replaceable
    (lt-ltb beyond (length digits) (omega arith))))

-- another place takes none
pub takes_none : (digits : List ℕ) (own beyond t : ℕ) → length digits ≡ t → (is_replaceable own ≡ false) ⊎ (t ≤ beyond)
    → None ≡ taken_from digits own beyond
takes_none digits own beyond t size (inl fails) =
    sym (cond-false (is_replaceable own
    && nat_lt beyond (length digits)) _ _ (and_left (is_replaceable own) (nat_lt beyond (length digits)) fails))
takes_none digits own beyond t size (inr le) =
    sym (cond-false (is_replaceable own
    && nat_lt beyond (length digits)) _ _
    (and_right (is_replaceable own) (nat_lt beyond (length digits)) (le-ltb beyond (length digits) (omega arith))))

-- how many places are to the left of the first significant one
pub before_significant_is : (word digits : List ℕ) (i : ℕ) → i ≤ length word
    → ((k : ℕ) → k < i → is_significant (taken_by word digits k) ≡ false)
    → (i < length word → is_significant (taken_by word digits i) ≡ true) → before_significant word digits ≡ i
unfolding before_significant
before_significant_is word digits i le none here =
    let places = map (taken_by word digits) (range_with_len 0 (length word)) in
    let size : length places ≡ length word = length-map-range_with_len (taken_by word digits) 0 (length word) in
    let at : (k : ℕ) → k < length word → is_significant (get_or places k None)
    ≡ is_significant (taken_by word digits k) =
    λ k lt. ap is_significant
    (get_or-map-range_with_len (taken_by word digits) 0 (length word) k k None lt (omega arith)) in
    position_or_len_is is_significant places i None (omega arith) (λ k lt. at k (omega arith)
    ∙ none k lt) (λ lt. at i (omega arith) ∙ here (omega arith))

-- the last zero is the one that this many places end with
pub limit_is : (word : List ℕ) (n : ℕ) → n ≤ length word
    → ((k : ℕ) → n ≤ k → k < length word → not (get_or word k 0 == zero_char) ≡ true)
    → (0 < n → not (get_or word (n - 1) 0 == zero_char) ≡ false) → limit_of word ≡ n
unfolding limit_of
limit_is word n le none here =
    let beyond = suffix_len_is (λ char. not (char == zero_char)) word n 0 le none here in
    omega arith

-- left of both is left of the lesser
pub left_of_both : (i x y : ℕ) → nat_lt i (min x y) ≡ (nat_lt i x && nat_lt i y)
left_of_both i x y = grind (arith, nat_tests)

-- what is written of the control word hasn't reached a place of A that is taken
pub not_shared : (a t b m i k : ℕ) → is_shared a t b m ≡ false → t ≤ a + 1 → k < t → i ≤ m → is_within b i (a - k)
    ≡ false
not_shared a t b m i k apart above within le = grind (arith, nat_tests)

-- as many characters as the control word has
pub length-edited : (word digits : List ℕ) (sign : Sign) → length (edited word digits sign) ≡ length word
unfolding edited
length-edited word digits sign = length-map-range_with_len (shown_at word digits sign) 0 (length word)

-- an edit writes what its control word shows, clears the word marks there, and leaves every other place as it was
pub record IsPut (s t : Storage) (a b taken n : ℕ) : Type 0 where
  pub unmarked : IsUnmarked t b n
  pub outside : IsSameOutside s t b n
  pub read : chars_across t b n ≡ edited (chars_across s b n) (units_unzoned (chars_across s a taken)) (sign_at s a)

pub edited_put : (s t : Storage) (a b taken n : ℕ)
    → t ≡ with_across s b (edited (chars_across s b n) (units_unzoned (chars_across s a taken)) (sign_at s a))
    → b < length s → n ≤ b + 1 → IsPut s t a b taken n
edited_put s t a b taken n put b_in above =
    let word = chars_across s b n in
    let digits = units_unzoned (chars_across s a taken) in
    let shows = edited word digits (sign_at s a) in
    let size : length shows ≡ n = length-edited word digits (sign_at s a) ∙ length-across s b n b_in above in
    record {
      unmarked = across_unmarked s t b n shows put size b_in above;
      outside = across_outside s t b n shows put size;
      read = across_again s t b n shows put size b_in above;
    }

-- what a place shows before anything is suppressed, by what the rules go by
pub shown_place : (word digits : List ℕ) (sign : Sign) (j : ℕ) (rules : Rules) (beyond : ℕ) (taken : Option ℕ) (own : ℕ)
    → j < length word → rules ≡ rules_of word digits sign → beyond ≡ replaceable_beyond word j
    → taken ≡ taken_by word digits j → own ≡ get_or word j 0
    → shown rules (unsuppressed_place own beyond) taken ≡ get_or (unsuppressed word digits sign) j 0
unfolding unsuppressed
shown_place word digits sign j rules beyond taken own within e_rules e_beyond e_taken e_own =
    let full : Rules = rules_of word digits sign in
    ap (λ (each : Rules). shown each (unsuppressed_place own beyond) taken) e_rules
    ∙ ap (λ k. shown full (unsuppressed_place own k) taken) e_beyond
    ∙ ap (λ (o : Option ℕ). shown full (unsuppressed_place own (replaceable_beyond word j)) o) e_taken
    ∙ ap (λ k. shown full (unsuppressed_place k (replaceable_beyond word j)) (taken_by word digits j)) e_own
    ∙ sym (get_or-map-range_with_len (unsuppressed_at word digits sign) 0 (length word) j j 0 within (omega arith))

-- what the rules go by
pub rules_are : (s : Storage) (a b t m : ℕ) (rules : Rules) → a < length s → t ≤ a + 1 → rules.taken ≡ t
    → rules.replaceable ≡ replaceable_in (chars_across s b m) → rules.sign ≡ sign_at s a
    → rules ≡ rules_of (chars_across s b m) (units_unzoned (chars_across s a t)) (sign_at s a)
rules_are s a b t m rules in_core above taken replaceable sign =
    let digits : List ℕ = units_unzoned (chars_across s a t) in
    let size : length digits ≡ t = length-unzoned_across s a t in_core above in
    ap (λ (k : ℕ). let made : Rules = record rules { taken = k } in made) (taken ∙ sym size)
    ∙ ap (λ (k : ℕ). let made : Rules = record rules { taken = length digits; replaceable = k } in made) replaceable
    ∙ ap (λ (of_a : Sign). rules_of (chars_across s b m) digits of_a) sign

-- as many characters as the control word has
pub length-unsuppressed : (word digits : List ℕ) (sign : Sign) → length (unsuppressed word digits sign) ≡ length word
unfolding unsuppressed
length-unsuppressed word digits sign = length-map-range_with_len (unsuppressed_at word digits sign) 0 (length word)

-- what a place takes, by its own character and by those right of it
pub takes_here : (word digits : List ℕ) (j own beyond : ℕ) (taken : Option ℕ) → own ≡ get_or word j 0
    → beyond ≡ replaceable_beyond word j → taken ≡ taken_from digits own beyond → taken ≡ taken_by word digits j
takes_here word digits j own beyond taken e_own e_beyond e_taken =
    e_taken ∙ ap (λ k. taken_from digits k beyond) e_own ∙ ap (taken_from digits (get_or word j 0)) e_beyond

-- what is suppressed of a character that was taken and isn't significant, and of one of the control word
taken_suppressed : (char : ℕ) → is_significant (Some char) ≡ false
    → taken_char true char ≡ without_zero (taken_char false char)
taken_suppressed char none = grind (arith, nat_tests)

abbrev kept_by : Bool → Bool → Bool → Bool → ℕ → ℕ
kept_by left beyond part suppressed own =
    if is_replaceable own || (own == 48 || ((own == 27 && (left || (beyond || suppressed))) || part)) then 0 else own

kept_suppressed : (left beyond part : Bool) (own : ℕ) → kept_by left beyond part true own
    ≡ without_zero (kept_by left beyond part false own)
kept_suppressed true true true own = grind (arith, nat_tests)
kept_suppressed true true false own = grind (arith, nat_tests)
kept_suppressed true false true own = grind (arith, nat_tests)
kept_suppressed true false false own = grind (arith, nat_tests)
kept_suppressed false true true own = grind (arith, nat_tests)
kept_suppressed false true false own = grind (arith, nat_tests)
kept_suppressed false false true own = grind (arith, nat_tests)
kept_suppressed false false false own = grind (arith, nat_tests)

pub suppressed_shown : (rules : Rules) (own beyond : ℕ) (taken : Option ℕ) → is_significant taken ≡ false
    → shown rules (record { char = own; beyond = beyond; suppressed = true }) taken
    ≡ without_zero (shown rules (unsuppressed_place own beyond) taken)
suppressed_shown rules own beyond (Some char) none = taken_suppressed char none
suppressed_shown rules own beyond None none =
    kept_suppressed (is_left_over rules beyond) (beyond == 0)
    (is_sign_char own && is_sign_blanked rules.sign beyond) own

-- no place left of the first significant one is significant
pub none_significant : (word digits : List ℕ) (j : ℕ) → j < length word → j < before_significant word digits
    → is_significant (taken_by word digits j) ≡ false
unfolding before_significant
none_significant word digits j within before =
    let places = map (taken_by word digits) (range_with_len 0 (length word)) in
    sym (ap is_significant (get_or-map-range_with_len (taken_by word digits) 0 (length word) j j None within
    (omega arith))) ∙ fails_before_first is_significant places j None before

-- the places suppressed, from the left, are edited
pub shown_again : (word digits : List ℕ) (sign : Sign) (j count : ℕ) → j < length word
    → count ≡ min (before_significant word digits) (limit_of word)
    → (if nat_lt j count then without_zero (get_or (unsuppressed word digits sign) j 0)
    else get_or (unsuppressed word digits sign) j 0) ≡ get_or (edited word digits sign) j 0
unfolding edited unsuppressed
shown_again word digits sign j count within e =
    let taken = taken_by word digits j in
    let place : Bool → ℕ = λ test. shown (rules_of word digits sign)
    (record { char = get_or word j 0; beyond = replaceable_beyond word j; suppressed = test }) taken in
    let before = get_or (unsuppressed word digits sign) j 0 in
    let plain : before ≡ place false =
    get_or-map-range_with_len (unsuppressed_at word digits sign) 0 (length word) j j 0 within (omega arith) in
    let full : get_or (edited word digits sign) j 0 ≡ place (is_suppressed word digits j) =
    get_or-map-range_with_len (shown_at word digits sign) 0 (length word) j j 0 within (omega arith) in
    let test : nat_lt j count ≡ is_suppressed word digits j =
    ap (nat_lt j) e ∙ left_of_both j (before_significant word digits) (limit_of word) in
    elim (cases_lt j count) [
      | inl lt ↦
          let on : nat_lt j count ≡ true = lt-ltb j count lt in
          let none = none_significant word digits j within (omega arith) in
          ap (λ b. if b then without_zero before else before) on ∙ ap without_zero plain
          ∙ sym (suppressed_shown (rules_of word digits sign) (get_or word j 0) (replaceable_beyond word j) taken none)
          ∙ ap place (sym on ∙ test) ∙ sym full
      | inr le ↦
          let off : nat_lt j count ≡ false = le-ltb j count le in
          ap (λ b. if b then without_zero before else before) off ∙ plain ∙ ap place (sym off ∙ test) ∙ sym full
    ]

-- those from a place on, if it is one of them or it isn't
pub replaceable_more : (word : List ℕ) (j own beyond from : ℕ) → j < length word → own ≡ get_or word j 0 → beyond
    ≡ replaceable_beyond word j
    → ((is_replaceable own ≡ true) × (from ≡ beyond + 1)) ⊎ ((is_replaceable own ≡ false) × (from ≡ beyond)) → from
    ≡ count_by is_replaceable (drop j word)
replaceable_more word j own beyond from within e so_far (inl is) =
    let here = replaceable_here word j within (sym (ap is_replaceable e) ∙ is.0) in
    let more = is.1 in
    omega arith
replaceable_more word j own beyond from within e so_far (inr is) =
    let here = replaceable_outside word j within (sym (ap is_replaceable e) ∙ is.0) in
    let same = is.1 in
    omega arith

-- what a place takes of the characters by address, if those of A are as they were
pub taken_down_is : (s : Storage) (chars : List ℕ) (a t own beyond : ℕ) → a < length s → t ≤ a + 1
    → ((k : ℕ) → k < t → get_or chars (a - k) 0 ≡ (cell_at s (a - k)).char)
    → taken_down chars a t own beyond ≡ taken_from (units_unzoned (chars_across s a t)) own beyond
taken_down_is s chars a t own beyond in_core above same =
    let digits = units_unzoned (chars_across s a t) in
    let size : length digits ≡ t = length-unzoned_across s a t in_core above in
    elim (cases_Bool (is_replaceable own)) [
      | inl is ↦ elim (cases_lt beyond t) [
        | inl lt ↦
            cond-true (is_replaceable own && nat_lt beyond t) _ _
            (and_from (is_replaceable own) (nat_lt beyond t) is (lt-ltb beyond t lt))
            ∙ ap (λ (k : ℕ). let taken : Option ℕ = Some k in taken)
            (unzoned_down_is s chars a t beyond in_core above lt (same beyond lt))
            ∙ takes_one digits own beyond t size is lt
        | inr le ↦ cond-false (is_replaceable own && nat_lt beyond t) _ _
            (and_right (is_replaceable own) (nat_lt beyond t) (le-ltb beyond t le))
            ∙ takes_none digits own beyond t size (inr le)
      ]
      | inr fails ↦ cond-false (is_replaceable own && nat_lt beyond t) _ _
          (and_left (is_replaceable own) (nat_lt beyond t) fails)
          ∙ takes_none digits own beyond t size (inl fails)
    ]

-- a place that isn't the next one is on the same side of it
one_further : (j i : ℕ) → j ≢ i → nat_lt j (i + 1) ≡ nat_lt j i
one_further j i other = grind (arith, nat_tests)

-- the bits of the two characters that may be replaced
pub replaceable_bit : (char : ℕ) → char < 64 → (bit_and (1025 / 2 ^ char) 1 == 1) ≡ is_replaceable char
replaceable_bit char fits =
    sym (get_or-map-range_with_len (λ n. bit_and (1025 / 2 ^ n) 1 == 1) 0 64 char char false fits (omega arith))
    ∙ get_or-map-range_with_len is_replaceable 0 64 char char false fits (omega arith)

-- the characters lent are those written before, with the zeros and commas of i places from the left suppressed
abbrev pub AreSuppressed : Storage → List ℕ → ℕ → ℕ → ℕ → Type 0
AreSuppressed old chars b n i =
    (before : Storage) → (char_of : ℕ → ℕ) → old ≡ with_chars before b n char_of
    → with_all_chars old chars ≡ with_chars before b n (suppressed_to char_of n i)

pub none_suppressed : (old : Storage) (chars : List ℕ) (b n : ℕ) → chars ≡ chars_of old → AreSuppressed old chars b n 0
none_suppressed old chars b n lent before char_of e =
    lent_at_first old chars lent ∙ e
    ∙ with_chars_same before b n char_of (suppressed_to char_of n 0)
    (λ i lt. sym (ap (λ (t : Bool). if t then without_zero (char_of i) else char_of i)
    (le-ltb (n - 1 - i) 0 (omega arith))))

pub one_suppressed : (old : Storage) (chars new : List ℕ) (b n i at char put : ℕ) → b < length old → i < n → n ≤ b + 1
    → length chars ≡ length old → at ≡ b - (n - 1 - i) → char ≡ get_or chars at char → put ≡ without_zero char
    → new ≡ set chars at put → AreSuppressed old chars b n i → AreSuppressed old new b n (i + 1)
one_suppressed old chars new b n i at char put b_in within above size e_at read shows made so_far before char_of e =
    let k : ℕ = n - 1 - i in
    let last : n - 1 - k ≡ i = omega arith in
    let f : ℕ → ℕ = suppressed_to char_of n i in
    let g : ℕ → ℕ = suppressed_to char_of n (i + 1) in
    let in_before : b < length before = omega (arith, b_in, ap length e, length-with_chars before b n char_of) in
    let was : char ≡ char_of k =
    read ∙ ap (λ (q : ℕ). get_or chars q char) e_at ∙ char_lent old chars (b - k) char (omega (arith, b_in)) size
    ∙ ap (λ (s : Storage). (cell_at s (b - k)).char) (so_far before char_of e)
    ∙ ap (λ (cell : Cell). cell.char) (cell_at-with_chars before b n f k in_before (omega (arith, above))
    (omega (arith, within)))
    ∙ ap (λ (t : Bool). if t then without_zero (char_of k) else char_of k)
    (ap (λ (m : ℕ). nat_lt m i) last ∙ le-ltb i i (omega arith)) in
    let here : g k ≡ put =
    ap (λ (t : Bool). if t then without_zero (char_of k) else char_of k)
    (ap (λ (m : ℕ). nat_lt m (i + 1)) last ∙ lt-ltb i (i + 1) (omega arith))
    ∙ ap without_zero (sym was) ∙ sym shows in
    ap (with_all_chars old) made
    ∙ ap (λ (q : ℕ). with_all_chars old (set chars q put)) e_at
    ∙ lent-set old chars (b - k) put (omega (arith, b_in)) size
    ∙ ap (λ (s : Storage). with_char s (b - k) put) (so_far before char_of e)
    ∙ with_chars_changed before b n k put f g in_before (omega (arith, above)) (omega (arith, within)) here
    (λ u lt other. ap (λ (t : Bool). if t then without_zero (char_of u) else char_of u)
    (one_further (n - 1 - u) i (omega (arith, lt, other, within))))

-- so the control word is edited
pub edited_again : (s : Storage) (b n : ℕ) (word digits : List ℕ) (sign : Sign) (count : ℕ) → length word ≡ n
    → count ≡ min (before_significant word digits) (limit_of word)
    → with_chars s b n (suppressed_to (char_to (unsuppressed word digits sign)) n count)
    ≡ with_chars s b n (char_to (edited word digits sign))
edited_again s b n word digits sign count size e =
    let plain : List ℕ = unsuppressed word digits sign in
    let full : List ℕ = edited word digits sign in
    let plain_size : length plain ≡ n = length-unsuppressed word digits sign ∙ size in
    let full_size : length full ≡ n = length-edited word digits sign ∙ size in
    with_chars_same s b n (suppressed_to (char_to plain) n count) (char_to full) (λ i lt.
    let j : ℕ = n - 1 - i in
    ap (λ (p : ℕ). if nat_lt j count then without_zero (get_or plain p 0) else get_or plain p 0)
    (omega (arith, plain_size))
    ∙ shown_again word digits sign j count (omega (arith, size, lt)) e
    ∙ ap (λ (p : ℕ). get_or full p 0) (omega (arith, full_size)))
