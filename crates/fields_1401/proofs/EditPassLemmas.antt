-- The pass of an edit from the right.
use Rattle.std.proofs.Common.{◌≡◌, set, ℕ, ◌+◌, ◌-◌, ◌<◌, ◌≤◌, ◌⊎◌, true, false, List, Option, Some, None}
use Rattle.std.proofs.Common.{length, get_or, drop, ap, sym, refl, ◌∙◌, inl, inr, arith}
use Rattle.std.specs.List.{count_by}
use Rattle.std.specs.Prelude.{not, slice_index}
use Rattle.std.proofs.lemmas.Bool.{cases_eq, lt-ltb, le-ltb}
use Rattle.std.proofs.lemmas.Bool.Decides.{nat_tests}
use Rattle.std.proofs.lemmas.List.{length-set, drop_all}
use Rattle.core_1401.specs.Storage.{Storage, cell_at, with_char}
use Rattle.fields_1401.specs.declared.editing.Rules.{Rules}
use Rattle.fields_1401.specs.Across.{chars_across, units_unzoned, char_to, unzoned_down}
use Rattle.fields_1401.specs.Edit.{is_replaceable, is_significant, replaceable_in, replaceable_beyond, taken_by}
use Rattle.fields_1401.specs.Edit.{kept_char, taken_char, taken_down, unsuppressed, sign_at, shown, is_shared}
use Rattle.fields_1401.specs.Edit.{rules_of, unsuppressed_place}
use Rattle.fields_1401.specs.Places.{is_within, with_chars, with_all_chars, chars_of}
use Rattle.fields_1401.specs.Suppress.{blank_char}
use Rattle.fields_1401.proofs.AcrossLemmas.{length-across, char_across, length-unzoned_across}
use Rattle.fields_1401.proofs.EditLemmas.{not_shared, length-unsuppressed, rules_are, shown_place, replaceable_more}
use Rattle.fields_1401.proofs.EditLemmas.{taken_down_is, takes_here}
use Rattle.fields_1401.proofs.LendingLemmas.{lent_at_first, length-chars_of, still_lent, lent-set}
use Rattle.fields_1401.proofs.PlacesLemmas.{is_within-below, with_chars_none, with_chars_more}

-- The i places put so far, from the right, show what they are to show before anything is suppressed. So many of them
-- were replaceable, and significant is the first significant one, counted from the left.
pub record ArePut (s : Storage) (chars : List ℕ) (a t b m i beyond significant : ℕ) : Type 0 where
  pub put : with_all_chars s chars
      ≡ with_chars s b i
      (char_to (unsuppressed (chars_across s b m) (units_unzoned (chars_across s a t)) (sign_at s a)))
  pub counted : beyond ≡ count_by is_replaceable (drop (m - i) (chars_across s b m))
  pub bound : beyond ≤ i
  pub size : length chars ≡ length s
  pub most : significant ≤ m
  pub none : (k : ℕ) → m - i ≤ k → k < significant
      → is_significant (taken_by (chars_across s b m) (units_unzoned (chars_across s a t)) k) ≡ false
  pub here : significant < m
      → is_significant (taken_by (chars_across s b m) (units_unzoned (chars_across s a t)) significant) ≡ true

-- before the first
pub put_none : (s : Storage) (chars : List ℕ) (a t b m : ℕ) → b < length s → m ≤ b + 1 → chars ≡ chars_of s
    → ArePut s chars a t b m 0 0 m
put_none s chars a t b m b_in above lent =
    let control : List ℕ = chars_across s b m in
    let size : length control ≡ m = length-across s b m b_in above in
    record {
      put = lent_at_first s chars lent ∙ with_chars_none s b _;
      counted = sym (ap (count_by is_replaceable) (drop_all (m - 0) control (omega arith)));
      bound = omega arith;
      size = ap length lent ∙ length-chars_of s;
      most = omega arith;
      none = λ k from lt. absurd (omega (arith, from, lt));
      here = λ lt. absurd (omega (arith, lt));
    }

-- a replaceable place takes a character of A while one is left
pub one_taken : (chars : List ℕ) (a t own beyond : ℕ) → is_replaceable own ≡ true → beyond < t
    → Some (unzoned_down chars a beyond) ≡ taken_down chars a t own beyond
one_taken chars a t own beyond is left = rw (is, lt-ltb beyond t left) refl

-- else none
pub none_left : (chars : List ℕ) (a t own beyond : ℕ) → is_replaceable own ≡ true → t ≤ beyond
    → None ≡ taken_down chars a t own beyond
none_left chars a t own beyond is past = rw (is, le-ltb beyond t past) refl

-- nor does another place
pub none_taken : (chars : List ℕ) (a t own beyond : ℕ) → is_replaceable own ≡ false
    → None ≡ taken_down chars a t own beyond
none_taken chars a t own beyond isnt = rw isnt refl

-- a replaceable place that took none shows a blank
pub blank_left : (rules : Rules) (own beyond : ℕ) → is_replaceable own ≡ true
    → blank_char ≡ kept_char rules (unsuppressed_place own beyond)
blank_left rules own beyond is = rw is refl

-- a character that is neither zero nor blank is significant
pub significant_is : (char : ℕ) → is_significant (Some char) ≡ not (is_replaceable char)
significant_is char = grind (arith, nat_tests)

-- a character that was taken shows itself if nothing is suppressed
pub taken_plain : (char : ℕ) → taken_char false char ≡ char
taken_plain char = grind (arith, nat_tests)

-- the units of A, of which some are taken, are as they were
pub units_kept : (s : Storage) (chars : List ℕ) (a t b m i beyond significant : ℕ) → a < length s → t ≤ a + 1
    → is_shared a t b m ≡ false → i ≤ m → beyond < t → ArePut s chars a t b m i beyond significant
    → (cell_at s a).char ≡ slice_index chars a
units_kept s chars a t b m i beyond significant a_in a_above apart le some before =
    let kept : ℕ → ℕ = char_to (unsuppressed (chars_across s b m) (units_unzoned (chars_across s a t)) (sign_at s a)) in
    let here : a - 0 ≡ a = omega arith in
    sym (still_lent s chars b i a kept before.size before.put a_in
    (ap (λ (q : ℕ). is_within b i q) (sym here) ∙ not_shared a t b m i 0 apart a_above (omega (arith, some)) le))

-- one more
pub put_more : (s : Storage) (chars after : List ℕ) (a t b m i place beyond from significant next own char : ℕ)
    (rules : Rules) (taken : Option ℕ) → a < length s → t ≤ a + 1 → b < length s → m ≤ b + 1
    → is_shared a t b m ≡ false → i < m → place ≡ b - i → rules.taken ≡ t
    → rules.sign ≡ sign_at s a → rules.replaceable ≡ replaceable_in (chars_across s b m) → own ≡ get_or chars place 0
    → taken ≡ taken_down chars a t own beyond → char ≡ shown rules (unsuppressed_place own beyond) taken
    → after ≡ set chars place char
    → ((is_replaceable own ≡ true) × (from ≡ beyond + 1)) ⊎ ((is_replaceable own ≡ false) × (from ≡ beyond))
    → ((is_significant taken ≡ true) × (next ≡ m - 1 - i)) ⊎ ((is_significant taken ≡ false) × (next ≡ significant))
    → ArePut s chars a t b m i beyond significant → ArePut s after a t b m (i + 1) from next
put_more s chars after a t b m i place beyond from significant next own char rules taken
    a_in a_above b_in b_above apart lt here e_taken e_sign e_replaceable read takes shows made counts tells before =
    let j : ℕ = m - 1 - i in
    let control : List ℕ = chars_across s b m in
    let digits : List ℕ = units_unzoned (chars_across s a t) in
    let full : List ℕ = unsuppressed control digits (sign_at s a) in
    let kept : ℕ → ℕ = char_to full in
    let size : length control ≡ m = length-across s b m b_in b_above in
    let full_size : length full ≡ length control = length-unsuppressed control digits (sign_at s a) in
    let digits_size : length digits ≡ t = length-unzoned_across s a t a_in a_above in
    let of_own : own ≡ get_or control j 0 =
    read ∙ ap (λ (q : ℕ). get_or chars q 0) here
    ∙ still_lent s chars b i (b - i) kept before.size before.put (omega (arith, b_in))
    (is_within-below b i (b - i) (omega (arith, lt, b_above)))
    ∙ ap (λ (q : ℕ). (cell_at s q).char) (omega (arith, lt, b_above))
    ∙ sym (char_across s b m j b_in b_above (omega (arith, lt))) in
    let right : beyond ≡ replaceable_beyond control j =
    before.counted ∙ ap (λ (k : ℕ). count_by is_replaceable (drop k control)) (omega (arith, lt)) in
    let of_taken : taken ≡ taken_by control digits j =
    takes_here control digits j own beyond taken of_own right
    (takes ∙ taken_down_is s chars a t own beyond a_in a_above
    (λ k less. still_lent s chars b i (a - k) kept before.size before.put (omega (arith, a_in))
    (not_shared a t b m i k apart a_above less (omega (arith, lt))))) in
    let go_by : rules ≡ rules_of control digits (sign_at s a) =
    rules_are s a b t m rules a_in a_above e_taken e_replaceable e_sign in
    let shown_here : char ≡ get_or full (length full - 1 - i) 0 =
    shows ∙ shown_place control digits (sign_at s a) j rules beyond taken own (omega (arith, lt, size)) go_by
    right of_taken of_own
    ∙ ap (λ (k : ℕ). get_or full k 0) (omega (arith, size, full_size)) in
    let more : from ≡ count_by is_replaceable (drop j control) =
    replaceable_more control j own beyond from (omega (arith, lt, size)) of_own right counts in
    record {
      put = ap (with_all_chars s) made ∙ ap (λ (q : ℕ). with_all_chars s (set chars q char)) here
          ∙ lent-set s chars (b - i) char (omega (arith, b_in)) before.size
          ∙ ap (λ (x : Storage). with_char x (b - i) char) before.put
          ∙ ap (λ (k : ℕ). with_char (with_chars s b i kept) (b - i) k) shown_here
          ∙ with_chars_more s b i kept b_in (omega (arith, lt, b_above));
      counted = more ∙ ap (λ (k : ℕ). count_by is_replaceable (drop k control)) (omega (arith, lt));
      bound = elim counts [ inl w ↦ omega (arith, w.1, before.bound) | inr w ↦ omega (arith, w.1, before.bound) ];
      size = ap length made ∙ length-set chars place char ∙ before.size;
      most = elim tells [ inl w ↦ omega (arith, w.1, lt) | inr w ↦ omega (arith, w.1, before.most) ];
      none = λ k least less. elim tells [
        | inl w ↦ absurd (omega (arith, w.1, least, less, lt))
        | inr w ↦ elim (cases_eq k j) [
          | inl same ↦ ap (λ (p : ℕ). is_significant (taken_by control digits p)) same
              ∙ sym (ap is_significant of_taken) ∙ w.0
          | inr other ↦ before.none k (omega (arith, least, other, lt)) (omega (arith, less, w.1))
        ]
      ];
      here = λ less. elim tells [
        | inl w ↦ ap (λ (p : ℕ). is_significant (taken_by control digits p)) w.1
            ∙ sym (ap is_significant of_taken) ∙ w.0
        | inr w ↦ ap (λ (p : ℕ). is_significant (taken_by control digits p)) w.1
            ∙ before.here (omega (arith, less, w.1))
      ];
    }
