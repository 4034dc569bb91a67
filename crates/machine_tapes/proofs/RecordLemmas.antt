-- The records of bytes: how many there are, and what each of them is.
use Rattle.std.proofs.Common.{◌≡◌, ℕ, suc, ◌+◌, ◌%◌, ◌<◌, ◌≤◌, Bool, true, false, cond, List, [], ◌∷◌}
use Rattle.std.proofs.Common.{length, reverse, refl, ap, ◌∙◌, arith}
use Rattle.std.proofs.Common.{inl, inr}
use Rattle.std.specs.Prelude.{nat_lt}
use Rattle.std.specs.List.{count_by, list_all, prefix_len, take_while}
use Rattle.std.proofs.lemmas.List.Recursion.{is_count_by}
use Rattle.std.proofs.lemmas.Bool.{and_from, cases_Bool, le-leb, lt-ltb}
use Rattle.std.proofs.lemmas.List.{length-map}
use Rattle.std.proofs.lemmas.List.{length-take-le, nil_from_length}
use Rattle.std.proofs.lemmas.List.Folds.{list_all-map}
use Rattle.std.proofs.lemmas.List.Sums.{prefix_len-le-length, sum_by-cons}
use Rattle.std.proofs.lemmas.List.Sorted.{IsPermutation-reverse, sum_by-IsPermutation}
use Rattle.machine_tapes.specs.Held.{begins, goes_on, characters_of, records_in, is_record}
use Rattle.machine_tapes.specs.Reel.{characters_in, most_characters}
use Rattle.machine_tapes.proofs.HeldLemmas.{begins_if, begins_not}

-- no byte, no record
pub records_in-nil : (bytes : List ℕ) → length bytes ≡ 0 → records_in bytes ≡ []
unfolding records_in
records_in-nil bytes h = ap records_in (nil_from_length bytes h)

-- what the records of bytes are like
few_below : (bytes : List ℕ) → list_all (λ byte. nat_lt (byte % 64) 64) bytes ≡ true
few_below [] = refl
few_below (x ∷ xs) =
    let below : x % 64 < 64 = omega arith in
    and_from (nat_lt (x % 64) 64) _ (lt-ltb (x % 64) 64 below) (few_below xs)

pub is_record-of : (bytes : List ℕ) → 0 < length bytes → length bytes ≤ most_characters
    → is_record (characters_of bytes) ≡ true
is_record-of bytes some most =
    let size = length-map bytes (λ (byte : ℕ). byte % 64) in
    and_from _ _ (and_from _ _ (le-leb 1 (length (characters_of bytes)) (omega (arith, size, some)))
    (le-leb (length (characters_of bytes)) most_characters (omega (arith, size, most))))
    (list_all-map (λ char. nat_lt char 64) (λ byte. byte % 64) bytes ∙ few_below bytes)

pub records_in-begun : (x : ℕ) (xs : List ℕ) → begins x ≡ true → records_in (x ∷ xs)
    ≡ characters_of (x ∷ take_while goes_on xs) ∷ records_in xs
unfolding records_in
records_in-begun x xs h =
    ap (λ b. cond b (characters_of (x ∷ take_while goes_on xs) ∷ records_in xs) (records_in xs)) h

pub records_in-going : (x : ℕ) (xs : List ℕ) → begins x ≡ false → records_in (x ∷ xs) ≡ records_in xs
unfolding records_in
records_in-going x xs h =
    ap (λ b. cond b (characters_of (x ∷ take_while goes_on xs) ∷ records_in xs) (records_in xs)) h

pub size_from : (x : ℕ) (xs : List ℕ) → goes_on x ≡ true → prefix_len goes_on (x ∷ xs) ≡ 1 + prefix_len goes_on xs
size_from x xs h = ap (λ b. cond b (1 + prefix_len goes_on xs) 0) h

pub size_none : (x : ℕ) (xs : List ℕ) → goes_on x ≡ false → prefix_len goes_on (x ∷ xs) ≡ 0
size_none x xs h = ap (λ b. cond b (1 + prefix_len goes_on xs) 0) h

pub length_begun : (x : ℕ) (xs : List ℕ)
    → length (characters_of (x ∷ take_while goes_on xs)) ≡ suc (prefix_len goes_on xs)
length_begun x xs =
    length-map (x ∷ take_while goes_on xs) (λ (byte : ℕ). byte % 64)
    ∙ ap suc (length-take-le (prefix_len goes_on xs) xs (prefix_len-le-length goes_on xs))

-- each character is one of a record, but those before the first
pub counted : (xs : List ℕ) → characters_in (records_in xs) + prefix_len goes_on xs ≡ length xs
unfolding records_in
counted [] = refl
counted (x ∷ xs) =
    let more : characters_in (records_in xs) + prefix_len goes_on xs ≡ length xs = counted xs in
    elim (cases_Bool (goes_on x)) [
      | inl on ↦
          let same = ap characters_in (records_in-going x xs (begins_not x on)) in
          omega (arith, more, same, size_from x xs on)
      | inr new ↦
          let first = ap characters_in (records_in-begun x xs (begins_if x new)) in
          let parts = sum_by-cons length (characters_of (x ∷ take_while goes_on xs)) (records_in xs) in
          omega (arith, more, first, parts, length_begun x xs, size_none x xs new)
    ]

pub characters-reverse : (records : List (List ℕ)) → characters_in (reverse records) ≡ characters_in records
characters-reverse records =
    sum_by-IsPermutation length records (reverse records) (IsPermutation-reverse records)

-- the records of bytes are those of a tape
pub good_records : (bytes : List ℕ) → length bytes ≤ most_characters → list_all is_record (records_in bytes) ≡ true
unfolding records_in
good_records [] most = refl
good_records (x ∷ xs) most =
    let rest : list_all is_record (records_in xs) ≡ true = good_records xs (omega arith) in
    elim (cases_Bool (goes_on x)) [
      | inl on ↦ ap (λ (all : List (List ℕ)). list_all is_record all) (records_in-going x xs (begins_not x on)) ∙ rest
      | inr new ↦
          let run : List ℕ = x ∷ take_while goes_on xs in
          let size = length-take-le (prefix_len goes_on xs) xs (prefix_len-le-length goes_on xs) in
          let few : length run ≤ most_characters = omega (arith, size, prefix_len-le-length goes_on xs, most) in
          ap (λ (all : List (List ℕ)). list_all is_record all) (records_in-begun x xs (begins_if x new))
          ∙ and_from (is_record (characters_of run)) _ (is_record-of run (omega arith) few) rest
    ]

pub few_characters : (bytes : List ℕ) → length bytes ≤ most_characters
    → characters_in (records_in bytes) ≤ most_characters
few_characters bytes most = omega (arith, counted bytes, most)

-- how many records there are
count_record : (b : Bool) (first : List ℕ) (rest : List (List ℕ)) → length (cond b (first ∷ rest) rest)
    ≡ cond b (1 + length rest) (length rest)
count_record true first rest = omega arith
count_record false first rest = refl

pub records_counted : (bytes : List ℕ) → length (records_in bytes) ≡ count_by begins bytes
unfolding records_in
records_counted bytes =
    is_count_by (λ (xs : List ℕ). length (records_in xs)) begins refl
    (λ x xs. count_record (begins x) (characters_of (x ∷ take_while goes_on xs)) (records_in xs)) bytes
