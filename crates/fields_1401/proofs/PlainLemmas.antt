-- A control word of blanks and zeros shows what it takes with blanks in front.
use Rattle.std.proofs.Common.{◌≡◌, ℕ, zero, suc, ◌+◌, ◌-◌, ◌<◌, ◌≤◌, ◌++◌, true, false, List, Option, Some, None}
use Rattle.std.proofs.Common.{length, get_or, map, drop, replicate, min, refl, ap, sym, ◌∙◌, inl, inr, arith}
use Rattle.std.specs.List.{count_by, range_with_len}
use Rattle.std.specs.Prelude.{nat_lt, not}
use Rattle.std.proofs.lemmas.Bool.{cases_lt, lt-ltb, le-ltb}
use Rattle.std.proofs.lemmas.Bool.Decides.{nat_tests}
use Rattle.std.proofs.lemmas.List.{ext_get_or, drop_all, length-append, length-replicate, length-drop}
use Rattle.std.proofs.lemmas.List.{get_or_append_left, get_or-append_right, get_or-replicate, get_or-drop}
use Rattle.std.proofs.lemmas.List.FromFn.{get_or-map-range_with_len, length-map-range_with_len}
use Rattle.std.proofs.lemmas.List.Sums.{fails_before_first, prefix_len-le-length}
use Rattle.fields_1401.specs.declared.sign.Sign.{Sign}
use Rattle.fields_1401.specs.Edit.{is_replaceable, replaceable_beyond, taken_by, is_significant, before_significant}
use Rattle.fields_1401.specs.Edit.{limit_of, is_suppressed, taken_char, shown_at, edited, IsPlain, ShowsWithBlanks}
use Rattle.fields_1401.proofs.EditLemmas.{replaceable_here, takes_one, takes_none, left_of_both, length-edited}

-- all places from one on are replaceable
plain_count : (word : List ℕ) → IsPlain word → (n i : ℕ) → i + n ≡ length word → count_by is_replaceable (drop i word)
    ≡ n
plain_count word plain zero i e = ap (count_by is_replaceable) (drop_all i word (omega arith))
plain_count word plain (suc n) i e =
    let rest = plain_count word plain n (i + 1) (omega arith) in
    let here = replaceable_here word i (omega arith) (plain i (omega arith)) in
    omega arith

-- what place j takes: none on the left, then one character of A after the other
plain_left : (word digits : List ℕ) (j : ℕ) → IsPlain word → j < length word → j + length digits < length word
    → taken_by word digits j ≡ None
plain_left word digits j plain within left =
    let beyond = plain_count word plain (length word - 1 - j) (j + 1) (omega arith) in
    sym (takes_none digits (get_or word j 0) (replaceable_beyond word j) (length digits) refl (inr (omega arith)))

plain_right : (word digits : List ℕ) (j : ℕ) → IsPlain word → j < length word → length digits ≤ length word
    → length word ≤ j + length digits
    → taken_by word digits j ≡ Some (get_or digits (j - (length word - length digits)) 0)
plain_right word digits j plain within fewer right =
    let beyond = plain_count word plain (length word - 1 - j) (j + 1) (omega arith) in
    sym (takes_one digits (get_or word j 0) (replaceable_beyond word j) (length digits) refl (plain j within)
    (omega arith))
    ∙ ap (λ k. let taken : Option ℕ = Some (get_or digits k 0) in taken) (omega arith)

-- left of the first significant place none is
not_significant : (word digits : List ℕ) (k : ℕ) → k < before_significant word digits → k < length word
    → is_significant (taken_by word digits k) ≡ false
unfolding before_significant
not_significant word digits k lt within =
    let places = map (taken_by word digits) (range_with_len 0 (length word)) in
    ap is_significant
    (sym (get_or-map-range_with_len (taken_by word digits) 0 (length word) k k None within (omega arith)))
    ∙ fails_before_first is_significant places k None lt

before_significant-le : (word digits : List ℕ) → before_significant word digits ≤ length word
unfolding before_significant
before_significant-le word digits =
    let places = map (taken_by word digits) (range_with_len 0 (length word)) in
    let size : length places ≡ length word = length-map-range_with_len (taken_by word digits) 0 (length word) in
    omega (arith, prefix_len-le-length (λ place. not (is_significant place)) places)

-- what isn't significant is a zero or a blank, and a zero that is suppressed is a blank
blank_or_zero : (char : ℕ) → is_significant (Some char) ≡ false → is_replaceable char ≡ true
blank_or_zero char e = grind (arith, nat_tests)

suppressed_blank : (char : ℕ) → is_significant (Some char) ≡ false → taken_char true char ≡ 0
suppressed_blank char e = grind (arith, nat_tests)

shown_char : (char : ℕ) → taken_char false char ≡ char
shown_char char = grind (arith, nat_tests)

-- what place j shows
plain_place : (word digits : List ℕ) (sign : Sign) (j : ℕ) → IsPlain word → j < length word
    → length digits ≤ length word → get_or (edited word digits sign) j 0 ≡ shown_at word digits sign j
unfolding edited
plain_place word digits sign j plain within fewer =
    get_or-map-range_with_len (shown_at word digits sign) 0 (length word) j j 0 within (omega arith)

-- a place that takes none is replaceable, and so blank
plain_kept : (word digits : List ℕ) (sign : Sign) (j : ℕ) → IsPlain word → j < length word → taken_by word digits j
    ≡ None → shown_at word digits sign j ≡ 0
plain_kept word digits sign j plain within none =
    rw (none, plain j within) refl

-- a place that takes one shows it, or a blank if it is suppressed
plain_took : (word digits : List ℕ) (sign : Sign) (j char : ℕ) → taken_by word digits j ≡ Some char
    → shown_at word digits sign j ≡ taken_char (is_suppressed word digits j) char
plain_took word digits sign j char took = rw took refl

-- with blanks in front as far as zeros are suppressed
pub plain_shows : (word digits : List ℕ) (sign : Sign) → IsPlain word → length digits ≤ length word
    → ShowsWithBlanks (edited word digits sign) digits
plain_shows word digits sign plain fewer =
    let m = length word in
    let t = length digits in
    let far = min (before_significant word digits) (limit_of word) in
    let hidden = far - (m - t) in
    let most = before_significant-le word digits in
    let hidden_fewer : hidden ≤ t = omega arith in
    let size : length (edited word digits sign) ≡ m = length-edited word digits sign in
    let front : List ℕ = replicate (length (edited word digits sign) - (t - hidden)) 0 in
    let front_size : length front
    ≡ m - (t - hidden) =
    length-replicate {A = ℕ} (length (edited word digits sign) - (t - hidden)) 0 ∙ omega arith in
    let suppressed : (j : ℕ) → is_suppressed word digits j
    ≡ nat_lt j far = λ j. sym (left_of_both j (before_significant word digits) (limit_of word)) in
    let at : (j : ℕ) → j < m → m ≤ j + t → get_or (edited word digits sign) j 0
    ≡ taken_char (nat_lt j far) (get_or digits (j - (m - t)) 0) =
    λ j within right. plain_place word digits sign j plain within fewer
    ∙ plain_took word digits sign j (get_or digits (j - (m - t)) 0) (plain_right word digits j plain within fewer right)
    ∙ ap (λ b. taken_char b (get_or digits (j - (m - t)) 0)) (suppressed j) in
    let insignificant : (j : ℕ) → j < far → m ≤ j + t → is_significant (Some (get_or digits (j - (m - t)) 0)) ≡ false =
    λ j lt right. ap is_significant (sym (plain_right word digits j plain (omega arith) fewer right))
    ∙ not_significant word digits j (omega arith) (omega arith) in
    record {
      hidden = hidden;
      fewer = hidden_fewer;
      shows = ext_get_or 0 (edited word digits sign) (front ++ drop hidden digits)
          (size ∙ sym (length-append front (drop hidden digits) ∙ omega (arith, length-drop hidden digits)))
          (λ j lt. elim (cases_lt j (m - (t - hidden))) [
            | inl left ↦ elim (cases_lt (j + t) m) [
              | inl none ↦ plain_place word digits sign j plain (omega arith) fewer
                  ∙ plain_kept word digits sign j plain (omega arith)
                  (plain_left word digits j plain (omega arith) none)
              | inr right ↦ at j (omega arith) right
                  ∙ ap (λ b. taken_char b (get_or digits (j - (m - t)) 0)) (lt-ltb j far (omega arith))
                  ∙ suppressed_blank (get_or digits (j - (m - t)) 0) (insignificant j (omega arith) right)
            ]
                ∙ sym (get_or_append_left front (drop hidden digits) 0 j (omega arith)
                ∙ get_or-replicate (length (edited word digits sign) - (t - hidden)) j 0 0 (omega arith))
            | inr right ↦ at j (omega arith) (omega arith)
                ∙ ap (λ b. taken_char b (get_or digits (j - (m - t)) 0)) (le-ltb j far (omega arith))
                ∙ shown_char (get_or digits (j - (m - t)) 0) ∙ ap (λ k. get_or digits k 0) (omega arith)
                ∙ sym (get_or-append_right front (drop hidden digits) (m - (t - hidden)) j 0 front_size right
                ∙ get_or-drop hidden digits (j - (m - (t - hidden))) 0)
          ]);
      zeros =
          λ k lt. ap (λ i. is_replaceable (get_or digits i 0)) (omega arith)
          ∙ blank_or_zero (get_or digits (k + (m - t) - (m - t)) 0)
          (insignificant (k + (m - t)) (omega arith) (omega arith));
    }
