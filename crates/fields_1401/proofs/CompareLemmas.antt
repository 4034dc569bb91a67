-- The highest pair that differs decides, as the first letters that differ do in a dictionary.
use Rattle.std.proofs.Common.{◌≡◌, ◌≢◌, ℕ, ◌+◌, ◌-◌, ◌<◌, ◌≤◌, ◌==◌, ◌||◌, ◌&&◌, ◌++◌, Bool, true, false, List, [], ◌∷◌}
use Rattle.std.proofs.Common.{Option, Some, None, Ok, IfSome, length, get_or, map, not, ap, sym, ◌∙◌, refl, arith, zero}
use Rattle.std.proofs.Common.{suc}
use Rattle.std.proofs.Common.{if◌then◌else◌, cond, take, drop, add-one, subst, drop-cons}
use Rattle.std.proofs.Common.{Ordering, Less, Equal, Greater}
use Rattle.std.proofs.Common.{inl, inr}
use Rattle.std.proofs.lemmas.Bool.{false≢true}
use Rattle.std.specs.Cmp.Lexicographic.{slice_cmp}
use Rattle.std.specs.Cmp.{unsigned_tied, nat_cmp_is}
use Rattle.std.specs.List.{list_any, range_with_len}
use Rattle.std.specs.List.{zip}
use Rattle.std.specs.Option.{is_some}
use Rattle.std.specs.Ordering.{nat_cmp, ordering_then, is_eq, is_lt, is_gt}
use Rattle.std.specs.Prelude.{find, reverse, nat_lt}
use Rattle.std.specs.Prelude.{position, option_map}
use Rattle.std.proofs.lemmas.Bool.{eqb-true, cases_eq, cases_lt}
use Rattle.std.proofs.lemmas.Bool.{lt-ltb}
use Rattle.std.proofs.lemmas.List.Folds.{list_any-append}
use Rattle.std.proofs.lemmas.List.FromFn.{length-range_with_len, get_or-range_with_len}
use Rattle.std.proofs.lemmas.List.Quantifiers.{position-Some}
use Rattle.std.proofs.lemmas.List.Sums.{position_or_len_is}
use Rattle.std.proofs.lemmas.List.{ext_get_or, get_or_append_left, get_or-append_right, length-append, reverse-append}
use Rattle.std.proofs.lemmas.Slice.Zip.{get_or-zip, length-zip}
use Rattle.bcd_1401.specs.Collation.{order_of}
use Rattle.bcd_1401.specs.declared.cell.Cell.{Cell}
use Rattle.core_1401.specs.Field.{cells_down, field_len_of, pair_len_of}
use Rattle.core_1401.specs.Places.{is_unequal_pair}
use Rattle.core_1401.specs.Storage.{Storage, cell_at, blank}
use Rattle.fields_1401.proofs.FieldLemmas.{get_or-cells_down, length-cells_down}
use Rattle.fields_1401.specs.Across.{chars_across}
use Rattle.fields_1401.specs.Compare.{highest_difference, order_at, orders_across, comparison_at, compared, ends_first}
use Rattle.fields_1401.specs.Compare.{is_higher, Tells}
use Rattle.fields_1401.specs.Outcome.{below_by, registers_of}
use Rattle.fields_1401.specs.declared.done.Done.{Done}

-- the numbers below n + 1 are those below n, and n
range_push : (n : ℕ) → range_with_len 0 (n + 1) ≡ range_with_len 0 n ++ (n ∷ [])
range_push n =
    let fewer : List ℕ = range_with_len 0 n in
    let count : length fewer ≡ n = length-range_with_len 0 n in
    let size : length (fewer ++ (n ∷ [])) ≡ n + 1 = length-append fewer (n ∷ []) ∙ omega arith in
    ext_get_or 0 (range_with_len 0 (n + 1)) (fewer ++ (n ∷ [])) (length-range_with_len 0 (n + 1) ∙ sym size)
    (λ k lt.
    let within : k < n + 1 = omega (arith, length-range_with_len 0 (n + 1)) in
    get_or-range_with_len 0 (n + 1) k 0 within ∙ (elim (cases_lt k n) [
      | inl below ↦ sym (get_or_append_left fewer (n ∷ []) 0 k (omega arith) ∙ get_or-range_with_len 0 n k 0 below)
      | inr past ↦ let first : k - n ≡ 0 = omega arith in
          let last : 0 + k ≡ n = omega arith in
          last ∙ sym (get_or-append_right fewer (n ∷ []) n k 0 count past ∙ ap (λ j. get_or (n ∷ []) j 0) first)
    ]))

-- one pair more, above the others
pub one_pair_more : (s : Storage) (a b n : ℕ) → highest_difference s a b (n + 1)
    ≡ (if is_unequal_pair s a b n then Some n else highest_difference s a b n)
unfolding highest_difference
one_pair_more s a b n =
    ap (λ (xs : List ℕ). find (is_unequal_pair s a b) (reverse xs)) (range_push n)
    ∙ ap (find (is_unequal_pair s a b)) (reverse-append (range_with_len 0 n) (n ∷ []))

pub no_pairs : (s : Storage) (a b : ℕ) → highest_difference s a b 0 ≡ None
unfolding highest_difference
no_pairs s a b = refl

-- no pair is the highest if all agree
pub highest_none : (s : Storage) (a b n : ℕ) → ((i : ℕ) → i < n → is_unequal_pair s a b i ≡ false)
    → highest_difference s a b n ≡ None
highest_none s a b zero agree = no_pairs s a b
highest_none s a b (suc n) agree =
    ap (highest_difference s a b) (sym (add-one n)) ∙ one_pair_more s a b n
    ∙ ap (λ (d : Bool). if d then Some n else highest_difference s a b n) (agree n (omega arith))
    ∙ highest_none s a b n (λ i lt. agree i (omega (arith, lt)))

-- a pair that differs is the highest if all above it agree
pub highest_some : (s : Storage) (a b n i : ℕ) → i < n → is_unequal_pair s a b i ≡ true
    → ((j : ℕ) → i < j → j < n → is_unequal_pair s a b j ≡ false) → highest_difference s a b n ≡ Some i
highest_some s a b zero i lt differs agree = absurd (omega (arith, lt))
highest_some s a b (suc n) i lt differs agree =
    ap (highest_difference s a b) (sym (add-one n)) ∙ one_pair_more s a b n
    ∙ elim (cases_eq i n) [
      | inl here ↦
          ap (λ (d : Bool). if d then Some n else highest_difference s a b n)
          (ap (is_unequal_pair s a b) (sym here) ∙ differs)
          ∙ ap (λ (k : ℕ). Some k) (sym here)
      | inr other ↦
          ap (λ (d : Bool). if d then Some n else highest_difference s a b n)
          (agree n (omega (arith, lt, other)) (omega arith))
          ∙ highest_some s a b n i (omega (arith, lt, other)) differs
          (λ j above below. agree j above (omega (arith, below)))
    ]

last_agrees : (some more : Bool) → (some || (more || false)) ≡ false → (some ≡ false) × (more ≡ false)
last_agrees true true e = absurd cc
last_agrees true false e = absurd cc
last_agrees false true e = absurd cc
last_agrees false false e = (refl, refl)

-- pairs that agree are passed, k of them above the lowest ones
pub passed_pairs : (s : Storage) (a b low k : ℕ)
    → list_any (is_unequal_pair s (a - low) (b - low)) (range_with_len 0 k) ≡ false
    → highest_difference s a b (low + k) ≡ highest_difference s a b low
passed_pairs s a b low zero agree = ap (highest_difference s a b) (omega arith)
passed_pairs s a b low (suc k) agree =
    let test : ℕ → Bool = is_unequal_pair s (a - low) (b - low) in
    let split : (list_any test (range_with_len 0 k) || (test k || false)) ≡ false =
    sym (list_any-append test (range_with_len 0 k) (k ∷ [])) ∙ sym (ap (list_any test) (range_push k))
    ∙ ap (λ m. list_any test (range_with_len 0 m)) (add-one k) ∙ agree in
    let both = last_agrees (list_any test (range_with_len 0 k)) (test k) split in
    let of_a : a - (low + k) ≡ a - low - k = omega arith in
    let of_b : b - (low + k) ≡ b - low - k = omega arith in
    let same : is_unequal_pair s a b (low + k) ≡ test k =
    ap (λ x. not ((cell_at s x).char == (cell_at s (b - (low + k))).char)) of_a
    ∙ ap (λ y. not ((cell_at s (a - low - k)).char == (cell_at s y).char)) of_b in
    ap (highest_difference s a b) (omega arith) ∙ one_pair_more s a b (low + k)
    ∙ ap (λ (d : Bool). if d then Some (low + k) else highest_difference s a b (low + k)) (same ∙ both.1)
    ∙ passed_pairs s a b low k both.0

either : (some more : Bool) (n : ℕ) (highest : Option ℕ) → some ≡ is_some highest
    → (some || (more || false)) ≡ is_some (if more then Some n else highest)
either true true n highest e = refl
either false true n highest e = refl
either true false n highest e = e
either false false n highest e = e

-- a pair differs if there is a highest one
pub any_is_highest : (s : Storage) (a b n : ℕ) → list_any (is_unequal_pair s a b) (range_with_len 0 n)
    ≡ is_some (highest_difference s a b n)
any_is_highest s a b zero = sym (ap is_some (no_pairs s a b))
any_is_highest s a b (suc n) =
    let test : ℕ → Bool = is_unequal_pair s a b in
    let more : list_any test (range_with_len 0 (n + 1)) ≡ is_some (highest_difference s a b (n + 1)) =
    ap (list_any test) (range_push n) ∙ list_any-append test (range_with_len 0 n) (n ∷ [])
    ∙ either (list_any test (range_with_len 0 n)) (test n) n (highest_difference s a b n) (any_is_highest s a b n)
    ∙ sym (ap is_some (one_pair_more s a b n)) in
    subst (λ m. list_any test (range_with_len 0 m) ≡ is_some (highest_difference s a b m)) (add-one n) more

no_places : (s : Storage) (at : ℕ) → orders_across s at 0 ≡ []
unfolding orders_across chars_across
no_places s at = refl

cells_across : (s : Storage) (at n : ℕ) → at < length s → n < at + 1
    → take (suc n) (drop (at + 1 - suc n) s) ≡ cell_at s (at - n) ∷ take n (drop (at + 1 - n) s)
cells_across s at n in_core above =
    let first : Cell = cell_at s (at - n) in
    let from : at + 1 - suc n ≡ at - n = omega arith in
    let rest : suc (at - n) ≡ at + 1 - n = omega arith in
    ap (λ m. take (suc n) (drop m s)) from ∙ ap (take (suc n)) (drop-cons s (at - n) blank (omega arith))
    ∙ ap (λ m. first ∷ take n (drop m s)) rest

-- one place more, left of the others
pub one_place_more : (s : Storage) (at n : ℕ) → at < length s → n < at + 1
    → orders_across s at (suc n) ≡ order_at s (at - n) ∷ orders_across s at n
unfolding orders_across chars_across
one_place_more s at n in_core above =
    ap (λ (cells : List Cell). map order_of (map (λ (cell : Cell). cell.char) cells)) (cells_across s at n in_core above)

-- how the two fields compare by the pair that decides
abbrev pub deciding : Storage → ℕ → ℕ → Option ℕ → Ordering
deciding s a b None = Equal
deciding s a b (Some i) = nat_cmp (order_at s (a - i)) (order_at s (b - i))

-- places that differ decide, whatever follows
decided : (x y : ℕ) (rest : Ordering) → x ≢ y → ordering_then (nat_cmp x y) rest ≡ nat_cmp x y
decided x y rest apart = by_order (nat_cmp x y) refl where
  by_order : (o : Ordering) → nat_cmp x y ≡ o → ordering_then (nat_cmp x y) rest ≡ nat_cmp x y
  by_order Less e = rw e refl
  by_order Equal e = absurd (apart (eqb-true x y (sym (unsigned_tied x y) ∙ ap is_eq e)))
  by_order Greater e = rw e refl

-- and the same places leave it to what follows
undecided : (x y : ℕ) (rest : Ordering) → x ≡ y → ordering_then (nat_cmp x y) rest ≡ rest
undecided x y rest same = ap (λ (o : Ordering). ordering_then o rest) (sym (nat_cmp_is x y Equal same))

not_false : (b : Bool) → not b ≡ false → b ≡ true
not_false true e = refl
not_false false e = sym e

and_false : (b : Bool) → (b && false) ≡ false
and_false true = refl
and_false false = refl

or_false : (p q : Bool) → p ≡ false → q ≡ false → (p || q) ≡ false
or_false p q e f = rw (e, f) refl

or_true : (p q : Bool) → p ≡ true → (p || q) ≡ true
or_true p q e = rw e refl

-- how the orders of two fields of n places compare
abbrev Decides : Storage → ℕ → ℕ → ℕ → Type 0
Decides s a b n =
    slice_cmp nat_cmp (orders_across s a n) (orders_across s b n) ≡ deciding s a b (highest_difference s a b n)

-- the places in the order differ in the pair that decides, if there is one
abbrev pub IsApart : Storage → ℕ → ℕ → Option ℕ → Type 0
IsApart s a b pair = IfSome pair (λ i. order_at s (a - i) ≢ order_at s (b - i))

-- one pair more: if it differs it decides, and else those below it do
decides_more : (s : Storage) (a b n : ℕ) → a < length s → b < length s → n < a + 1 → n < b + 1
    → IsApart s a b (highest_difference s a b (suc n))
    → (IsApart s a b (highest_difference s a b n) → Decides s a b n) → Decides s a b (suc n)
decides_more s a b n a_in b_in a_above b_above apart fewer = by_pair (is_unequal_pair s a b n) refl where
  pick : Bool → Option ℕ
  pick differ = if differ then Some n else highest_difference s a b n

  highest : highest_difference s a b (suc n) ≡ pick (is_unequal_pair s a b n)
  highest = ap (highest_difference s a b) (sym (add-one n)) ∙ one_pair_more s a b n

  by_pair : (differ : Bool) → is_unequal_pair s a b n ≡ differ → Decides s a b (suc n)
  by_pair true e =
      let found : highest_difference s a b (suc n) ≡ Some n = highest ∙ ap pick e in
      rw (one_place_more s a n a_in a_above, one_place_more s b n b_in b_above, found)
      (decided (order_at s (a - n)) (order_at s (b - n)) (slice_cmp nat_cmp (orders_across s a n) (orders_across s b n))
      (subst (IsApart s a b) found apart))
  by_pair false e =
      let found : highest_difference s a b (suc n) ≡ highest_difference s a b n = highest ∙ ap pick e in
      let x = (cell_at s (a - n)).char in
      let y = (cell_at s (b - n)).char in
      let same : x ≡ y = eqb-true x y (not_false (x == y) e) in
      rw (one_place_more s a n a_in a_above, one_place_more s b n b_in b_above, found)
      (undecided (order_at s (a - n)) (order_at s (b - n)) (slice_cmp nat_cmp (orders_across s a n)
      (orders_across s b n)) (ap order_of same) ∙ fewer (subst (IsApart s a b) found apart))

pub dictionary : (s : Storage) (a b n : ℕ) → a < length s → b < length s → n ≤ a + 1 → n ≤ b + 1
    → IsApart s a b (highest_difference s a b n) → Decides s a b n
dictionary s a b zero a_in b_in a_above b_above apart = rw (no_places s a, no_places s b, no_pairs s a b) refl
dictionary s a b (suc n) a_in b_in a_above b_above apart =
    decides_more s a b n a_in b_in a_above b_above apart
    (λ fewer. dictionary s a b n a_in b_in (omega arith) (omega arith) fewer)

none_is : (highest : Option ℕ) → is_some highest ≡ false → None ≡ highest
none_is None e = refl
none_is (Some i) e = absurd cc

-- if no two characters differ there is no highest pair that does
pub none_differs : (s : Storage) (a b n : ℕ) → list_any (is_unequal_pair s a b) (range_with_len 0 n) ≡ false
    → None ≡ highest_difference s a b n
none_differs s a b n e = none_is (highest_difference s a b n) (sym (any_is_highest s a b n) ∙ e)

-- the highest of the pairs left: one that differs is it, and one that doesn't is passed
pub found_pair : (s : Storage) (a b n left i : ℕ) → highest_difference s a b left ≡ highest_difference s a b n
    → left ≡ i + 1 → is_unequal_pair s a b i ≡ true → Some i ≡ highest_difference s a b n
found_pair s a b n left i kept e differs =
    sym (ap (λ (d : Bool). if d then Some i else highest_difference s a b i) differs) ∙ sym (one_pair_more s a b i)
    ∙ ap (highest_difference s a b) (sym e) ∙ kept

pub passed_pair : (s : Storage) (a b n left i : ℕ) → highest_difference s a b left ≡ highest_difference s a b n
    → left ≡ i + 1 → is_unequal_pair s a b i ≡ false → highest_difference s a b i ≡ highest_difference s a b n
passed_pair s a b n left i kept e agrees =
    sym (ap (λ (d : Bool). if d then Some i else highest_difference s a b i) agrees) ∙ sym (one_pair_more s a b i)
    ∙ ap (highest_difference s a b) (sym e) ∙ kept

-- the comparison by what was found of the pairs
pub comparison_is : (s : Storage) (a b n x y : ℕ) (pair : Option ℕ) (ends some higher : Bool) (r : Done)
    → Some n ≡ pair_len_of s a b → pair ≡ highest_difference s a b n → ends ≡ ends_first s a b n → some ≡ is_some pair
    → higher ≡ is_higher s a b pair → x ≡ below_by a n → y ≡ below_by b n → r ≡ registers_of x y
    → Ok (record {
      a = r.a;
      b = r.b;
      overflow = r.overflow;
      unequal = some || ends;
      low = (some || ends) && not (ends || higher);
      high = ends || higher;
    }) ≡ comparison_at s a b
unfolding comparison_at
comparison_is s a b n x y pair ends some higher r len e_pair e_ends e_some e_higher e_x e_y e_r =
    let any : some ≡ list_any (is_unequal_pair s a b) (range_with_len 0 n) =
    e_some ∙ ap is_some e_pair ∙ sym (any_is_highest s a b n) in
    let above : higher ≡ is_higher s a b (highest_difference s a b n) = e_higher ∙ ap (is_higher s a b) e_pair in
    rw (e_r, e_x, e_y, e_ends, any, above) (ap (compared s a b) len)

-- of an unequal result that is high or isn't
three : (some ends higher : Bool) → (higher ≡ true → some ≡ true)
    → (some || ends) ≡ (((some || ends) && not (ends || higher)) || (ends || higher))
three true true true found = refl
three true true false found = refl
three true false true found = refl
three true false false found = refl
three false true true found = refl
three false true false found = refl
three false false true found = found refl
three false false false found = refl

pub not_both : (unequal high : Bool) → ((unequal && not high) && high) ≡ false
not_both true true = refl
not_both true false = refl
not_both false true = refl
not_both false false = refl

-- only a pair that differs is higher
higher_differs : (s : Storage) (a b : ℕ) (pair : Option ℕ) → is_higher s a b pair ≡ true → is_some pair ≡ true
higher_differs s a b None e = e
higher_differs s a b (Some i) e = refl

pub low_or_high : (s : Storage) (a b : ℕ) (pair : Option ℕ) (some ends higher : Bool) → some ≡ is_some pair
    → higher ≡ is_higher s a b pair → (some || ends) ≡ (((some || ends) && not (ends || higher)) || (ends || higher))
low_or_high s a b pair some ends higher e_some e_higher =
    three some ends higher (λ e. e_some ∙ higher_differs s a b pair (sym e_higher ∙ e))

-- the place after the first word mark of a list of cells, which has as many as this
first_mark : (cells : List Cell) (n : ℕ) → option_map (λ i. i + 1) (position (λ (cell : Cell). cell.mark) cells) ≡ Some n
    → (k : ℕ) × (k + 1 ≡ n) × (position (λ (cell : Cell). cell.mark) cells ≡ Some k)
first_mark cells n len = found (position (λ (cell : Cell). cell.mark) cells) refl len where
  found : (o : Option ℕ) → position (λ (cell : Cell). cell.mark) cells ≡ o → option_map (λ i. i + 1) o ≡ Some n
      → (k : ℕ) × (k + 1 ≡ n) × (position (λ (cell : Cell). cell.mark) cells ≡ Some k)
  found None e none = absurd cc
  found (Some k) e some = (k, cc, e)

-- if the first word mark is at one place of two lists, so is the first of their pairs
first_pair : (xs ys : List Cell) (k : ℕ) → position (λ (cell : Cell). cell.mark) xs ≡ Some k
    → position (λ (cell : Cell). cell.mark) ys ≡ Some k
    → position (λ (pair : Cell × Cell). pair.0.mark || pair.1.mark) (zip xs ys) ≡ Some k
first_pair xs ys k of_x of_y =
    let in_x = position-Some (λ (cell : Cell). cell.mark) xs k blank of_x in
    let in_y = position-Some (λ (cell : Cell). cell.mark) ys k blank of_y in
    let test : Cell × Cell → Bool = λ pair. pair.0.mark || pair.1.mark in
    let lt : k < length (zip xs ys) = omega (arith, length-zip xs ys, in_x.0, in_y.0) in
    let read : (i : ℕ) → i ≤ k → get_or (zip xs ys) i (blank, blank) ≡ (get_or xs i blank, get_or ys i blank) =
    λ i le. get_or-zip xs ys i (blank, blank) (omega (arith, in_x.0)) (omega (arith, in_y.0)) in
    let index = position_or_len_is test (zip xs ys) k (blank, blank) (omega arith)
    (λ i before. ap test (read i (omega arith)) ∙ or_false (get_or xs i blank).mark (get_or ys i blank).mark (in_x.2 i before) (in_y.2 i before))
    (λ _. ap test (read k (omega arith)) ∙ or_true (get_or xs k blank).mark (get_or ys k blank).mark in_x.1) in
    rw (index, lt-ltb k (length (zip xs ys)) lt) refl

-- two fields of one length are compared over it, and B has its word mark there
pub one_length : (s : Storage) (a b n : ℕ) → a < length s → b < length s → field_len_of s a ≡ Some n
    → field_len_of s b ≡ Some n → (pair_len_of s a b ≡ Some n) × ((cell_at s (b + 1 - n)).mark ≡ true)
one_length s a b n a_in b_in a_len b_len =
    let of_a = first_mark (cells_down s a) n a_len in
    let of_b = first_mark (cells_down s b) n b_len in
    let k = of_b.0 in
    let same : of_a.0 ≡ k = omega (arith, of_a.1, of_b.1) in
    let in_b = position-Some (λ (cell : Cell). cell.mark) (cells_down s b) k blank of_b.2 in
    let below : k ≤ b = omega (arith, in_b.0, length-cells_down s b b_in) in
    let pair = first_pair (cells_down s a) (cells_down s b) k (of_a.2 ∙ ap Some same) of_b.2 in (
      ap (option_map (λ i. i + 1)) pair ∙ ap Some of_b.1,
      ap (λ q. (cell_at s q).mark) (omega (arith, of_b.1))
          ∙ sym (ap (λ (cell : Cell). cell.mark) (get_or-cells_down s b k b_in below)) ∙ in_b.1,
    )

or_none : (p : Bool) → (p || false) ≡ p
or_none true = refl
or_none false = refl

some_is : (n m : ℕ) → Some n ≡ Some m → n ≡ m
some_is n m e = cc

pub no_end_first : (s : Storage) (a b n : ℕ) → (cell_at s (b + 1 - n)).mark ≡ true → ends_first s a b n ≡ false
no_end_first s a b n e = rw e (and_false (cell_at s (a + 1 - n)).mark)

-- if one of two is so, that the second isn't is enough
pub asked_alone : (x y : Bool) → (x || y) ≡ true → not y ≡ x && not y
asked_alone true y e = refl
asked_alone false true e = refl
asked_alone false false e = absurd (false≢true e)

-- what is told by the order of two places that differ
low_by : (less same : Bool) → same ≡ false → not less ≡ is_gt (cond less Less (cond same Equal Greater))
low_by true same e = refl
low_by false same e = rw e refl

high_by : (less same : Bool) → less ≡ is_lt (cond less Less (cond same Equal Greater))
high_by true same = refl
high_by false true = refl
high_by false false = refl

other : (x y : ℕ) → x ≢ y → (x == y) ≡ false
other x y apart = by_test (x == y) refl where
  by_test : (same : Bool) → (x == y) ≡ same → (x == y) ≡ false
  by_test true e = absurd (apart (eqb-true x y e))
  by_test false e = e

pub tells_unequal : (s : Storage) (a b : ℕ) (pair : Option ℕ) → IsApart s a b pair
    → is_some pair ≡ not (is_eq (deciding s a b pair))
tells_unequal s a b None apart = refl
tells_unequal s a b (Some i) apart =
    ap not (sym (other (order_at s (a - i)) (order_at s (b - i)) apart) ∙ sym (unsigned_tied (order_at s (a - i)) (order_at s (b - i))))

pub tells_low : (s : Storage) (a b : ℕ) (pair : Option ℕ) → IsApart s a b pair
    → (is_some pair && not (is_higher s a b pair)) ≡ is_gt (deciding s a b pair)
tells_low s a b None apart = refl
tells_low s a b (Some i) apart =
    let x = order_at s (a - i) in
    let y = order_at s (b - i) in
    low_by (nat_lt x y) (x == y) (other x y apart)

pub tells_high : (s : Storage) (a b : ℕ) (pair : Option ℕ) → is_higher s a b pair ≡ is_lt (deciding s a b pair)
tells_high s a b None = refl
tells_high s a b (Some i) =
    let x = order_at s (a - i) in
    let y = order_at s (b - i) in
    high_by (nat_lt x y) (x == y)

-- what is told of fields of one length
pub tells : (s : Storage) (a b n : ℕ) (pair : Option ℕ) (ends some higher : Bool) (r : Done) → a < length s
    → b < length s
    → n ≤ a + 1 → n ≤ b + 1 → Some n ≡ pair_len_of s a b → pair ≡ highest_difference s a b n → ends ≡ ends_first s a b n
    → some ≡ is_some pair → higher ≡ is_higher s a b pair → IsApart s a b pair → (m : ℕ) → field_len_of s a ≡ Some m
    → field_len_of s b ≡ Some m → Tells (record r {
      unequal = some || ends;
      low = (some || ends) && not (ends || higher);
      high = ends || higher;
    }) (slice_cmp nat_cmp (orders_across s a m) (orders_across s b m))
tells s a b n pair ends some higher r a_in b_in a_above b_above len e_pair e_ends e_some e_higher apart m a_len b_len =
    let lengths = one_length s a b m a_in b_in a_len b_len in
    let same : n ≡ m = omega (arith, some_is n m (len ∙ lengths.0)) in
    let marked : (cell_at s (b + 1 - n)).mark ≡ true = ap (λ k. (cell_at s (b + 1 - k)).mark) same ∙ lengths.1 in
    let none : ends ≡ false = e_ends ∙ no_end_first s a b n marked in
    let order : slice_cmp nat_cmp (orders_across s a m) (orders_across s b m) ≡ deciding s a b pair =
    subst (λ k. Decides s a b k) same (dictionary s a b n a_in b_in a_above b_above (subst (IsApart s a b) e_pair apart))
    ∙ ap (λ k. deciding s a b (highest_difference s a b k)) (sym same) ∙ ap (deciding s a b) (sym e_pair) in
    record {
      unequal = rw (none, order, e_some) (or_none (is_some pair) ∙ tells_unequal s a b pair apart);
      low = rw (none, order, e_some, e_higher) (ap (λ (p : Bool). p && not (is_higher s a b pair)) (or_none (is_some pair)) ∙ tells_low s a b pair apart);
      high = rw (none, order, e_higher) (tells_high s a b pair);
    }
