-- Records among the bytes that hold them.
use Rattle.std.proofs.Common.{◌≡◌, ℕ, suc, ◌+◌, ◌-◌, ◌<◌, ◌≤◌, Bool, true, false, cond, List, [], ◌∷◌, ◌++◌, length}
use Rattle.std.proofs.Common.{take, drop, refl, sym, ap, subst, ◌∙◌, arith, length-drop}
use Rattle.std.specs.Prelude.{slice_range}
use Rattle.std.specs.List.{prefix_len, take_while}
use Rattle.std.proofs.Math.Seq.{take-add}
use Rattle.std.proofs.lemmas.Bool.{leb-true, le-ltb, ltb-true, ltb-false, lt-leb, le-leb}
use Rattle.std.proofs.lemmas.List.{take-append-drop, take-append-le, take_all, drop-drop, length-take-le}
use Rattle.std.proofs.lemmas.List.Sums.{prefix_len-le-length}
use Rattle.machine_tapes.specs.Held.{begins, goes_on, characters_of, records_in, first_size, IsWhole}

-- a byte either begins a record or doesn't
pub begins_if : (x : ℕ) → goes_on x ≡ false → begins x ≡ true
begins_if x h = le-leb 128 x (ltb-false x 128 h)

pub begins_not : (x : ℕ) → goes_on x ≡ true → begins x ≡ false
begins_not x h = lt-leb 128 x (ltb-true x 128 h)

-- a record begins with the first byte
whole_by : (b : Bool) (n : ℕ) → cond b (1 + n) 0 ≡ 0 → b ≡ false
whole_by true n h = absurd (omega arith)
whole_by false n h = refl

pub begins_first : (x : ℕ) (xs : List ℕ) → IsWhole (x ∷ xs) → begins x ≡ true
begins_first x xs h = begins_if x (whole_by (goes_on x) (prefix_len goes_on xs) h)

pub whole_first : (x : ℕ) (xs : List ℕ) → begins x ≡ true → IsWhole (x ∷ xs)
whole_first x xs h =
    let e : goes_on x ≡ false = le-ltb x 128 (leb-true 128 x h) in ap (λ b. cond b (1 + prefix_len goes_on xs) 0) e

-- what goes on before records, or before nothing, is the same if they follow it
pub going_on-append : (xs ys : List ℕ) → IsWhole ys → prefix_len goes_on (xs ++ ys) ≡ prefix_len goes_on xs
going_on-append [] ys h = h
going_on-append (x ∷ xs) ys h = ap (λ n. cond (goes_on x) (1 + n) 0) (going_on-append xs ys h)

take_while-append : (xs ys : List ℕ) → IsWhole ys → take_while goes_on (xs ++ ys) ≡ take_while goes_on xs
take_while-append xs ys h =
    ap (λ n. take n (xs ++ ys)) (going_on-append xs ys h)
    ∙ take-append-le (prefix_len goes_on xs) xs ys (prefix_len-le-length goes_on xs)

append_by : (b : Bool) (r s : List ℕ) (p p' q : List (List ℕ)) → r ≡ s → p ≡ p' ++ q
    → cond b (r ∷ p) p ≡ cond b (s ∷ p') p' ++ q
append_by true r s p p' q e h = cc
append_by false r s p p' q e h = h

-- the records of two parts, if the second begins with one
pub records_in-append : (xs ys : List ℕ) → IsWhole ys → records_in (xs ++ ys) ≡ records_in xs ++ records_in ys
unfolding records_in
records_in-append [] ys h = refl
records_in-append (x ∷ xs) ys h =
    append_by (begins x) (characters_of (x ∷ take_while goes_on (xs ++ ys))) (characters_of (x ∷ take_while goes_on xs))
    (records_in (xs ++ ys)) (records_in xs) (records_in ys)
    (ap (λ (bytes : List ℕ). characters_of (x ∷ bytes)) (take_while-append xs ys h)) (records_in-append xs ys h)

going_on_by : (b : Bool) (n m : ℕ) → n ≤ m → cond b (1 + n) 0 ≡ suc m → (b ≡ true) × (n ≡ m)
going_on_by true n m le h = (refl, omega arith)
going_on_by false n m le h = absurd (omega arith)

-- bytes hold no record if none of them begins one
pub records_in-none : (xs : List ℕ) → prefix_len goes_on xs ≡ length xs → records_in xs ≡ []
unfolding records_in
records_in-none [] h = refl
records_in-none (x ∷ xs) h =
    let goes = going_on_by (goes_on x) (prefix_len goes_on xs) (length xs) (prefix_len-le-length goes_on xs) h in
    ap (λ b. cond b (characters_of (x ∷ take_while goes_on xs) ∷ records_in xs) (records_in xs)) (begins_not x goes.0)
    ∙ records_in-none xs goes.1

-- bytes of one record
pub record IsBlock (bytes : List ℕ) : Type 0 where
  pub some : 0 < length bytes
  pub whole : IsWhole bytes
  pub one : first_size bytes ≡ length bytes

pub records_in-block : (bytes : List ℕ) → IsBlock bytes → records_in bytes ≡ characters_of bytes ∷ []
unfolding records_in
records_in-block [] block = let some : 0 < 0 = block.some in absurd (omega (arith, some))
records_in-block (x ∷ xs) block =
    let all : prefix_len goes_on xs ≡ length xs = omega (arith, block.one) in
    ap (λ b. cond b (characters_of (x ∷ take_while goes_on xs) ∷ records_in xs) (records_in xs))
    (begins_first x xs block.whole)
    ∙ ap (λ (rest : List (List ℕ)). characters_of (x ∷ take_while goes_on xs) ∷ rest) (records_in-none xs all)
    ∙ ap (λ (run : List ℕ). characters_of (x ∷ run) ∷ [])
    (ap (λ n. take n xs) all ∙ take_all (length xs) xs (omega arith))

drop_by : (b : Bool) (x : ℕ) (xs : List ℕ) (n : ℕ) (P : List ℕ → Type 0) → (b ≡ false → P (x ∷ xs))
    → (b ≡ true → P (drop n xs)) → P (drop (cond b (1 + n) 0) (x ∷ xs))
drop_by true x xs n P stop more = let e : suc n ≡ 1 + n = omega arith in subst (λ k. P (drop k (x ∷ xs))) e (more refl)
drop_by false x xs n P stop more = stop refl

-- what follows the bytes that go on
pub whole-rest : (xs : List ℕ) → IsWhole (drop (prefix_len goes_on xs) xs)
whole-rest [] = refl
whole-rest (x ∷ xs) =
    drop_by (goes_on x) x xs (prefix_len goes_on xs) IsWhole
    (λ stop. ap (λ b. cond b (1 + prefix_len goes_on xs) 0) stop) (λ more. whole-rest xs)

pub records_in-rest : (xs : List ℕ) → records_in xs ≡ records_in (drop (prefix_len goes_on xs) xs)
unfolding records_in
records_in-rest [] = refl
records_in-rest (x ∷ xs) =
    drop_by (goes_on x) x xs (prefix_len goes_on xs) (λ (ys : List ℕ). records_in (x ∷ xs) ≡ records_in ys)
    (λ stop. refl)
    (λ more. ap (λ b. cond b (characters_of (x ∷ take_while goes_on xs) ∷ records_in xs) (records_in xs))
    (begins_not x more)
    ∙ records_in-rest xs)

-- the bytes of the first record, and those after it
pub record HasFirst (bytes : List ℕ) : Type 0 where
  pub block : IsBlock (take (first_size bytes) bytes)
  pub whole : IsWhole (drop (first_size bytes) bytes)
  pub records : records_in bytes ≡ characters_of (take (first_size bytes) bytes)
      ∷ records_in (drop (first_size bytes) bytes)

going_on-take : (xs : List ℕ) → prefix_len goes_on (take (prefix_len goes_on xs) xs) ≡ prefix_len goes_on xs
going_on-take xs =
    let n = prefix_len goes_on xs in
    sym (going_on-append (take n xs) (drop n xs) (whole-rest xs)) ∙ ap (prefix_len goes_on) (take-append-drop n xs)

pub has_first : (bytes : List ℕ) → 0 < length bytes → IsWhole bytes → HasFirst bytes
has_first [] some whole = absurd (omega (arith, some))
has_first (x ∷ xs) some whole =
    let n = prefix_len goes_on xs in
    let fits : length (take n xs) ≡ n = length-take-le n xs (prefix_len-le-length goes_on xs) in
    let block : IsBlock (x ∷ take n xs) = record {
      some = omega arith;
      whole = whole_first x (take n xs) (begins_first x xs whole);
      one = omega (arith, fits, going_on-take xs);
    } in
    record {
      block = block;
      whole = whole-rest xs;
      records =
          ap records_in (sym (ap (λ (rest : List ℕ). x ∷ rest) (take-append-drop n xs)))
          ∙ records_in-append (x ∷ take n xs) (drop n xs) (whole-rest xs)
          ∙ ap (λ (records : List (List ℕ)). records ++ records_in (drop n xs))
          (records_in-block (x ∷ take n xs) block);
    }

-- bytes up to one place, to a second and to a third
pub range_split : (xs : List ℕ) (i j k : ℕ) → i ≤ j → j ≤ k → slice_range xs i k ≡ slice_range xs i j
    ++ slice_range xs j k
range_split xs i j k low high =
    let n : k - i ≡ (j - i) + (k - j) = omega arith in
    let m : i + (j - i) ≡ j = omega arith in
    ap (λ c. take c (drop i xs)) n ∙ take-add (j - i) (k - j) (drop i xs)
    ∙ ap (λ (rest : List ℕ). take (j - i) (drop i xs) ++ take (k - j) rest) (drop-drop (j - i) i xs
    ∙ ap (λ c. drop c xs) m)

-- how many bytes there are between two places
pub length-range : (xs : List ℕ) (i j : ℕ) → j ≤ length xs → length (slice_range xs i j) ≡ j - i
length-range xs i j h = length-take-le (j - i) (drop i xs) (omega (arith, length-drop i xs))
