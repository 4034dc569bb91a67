-- The first of a table.
use Rattle.std.proofs.Common.{◌≡◌, ℕ, zero, suc, ◌+◌, ◌<◌, ◌≤◌, Bool, true, false, cond, not, List, [], ◌∷◌, ◌++◌}
use Rattle.std.proofs.Common.{length, map, take, drop, slice_get, position, Option, Some, None, is_some, min, nat_lt}
use Rattle.std.proofs.Common.{◌||◌, refl, sym, ap, ◌∙◌, arith, subst, add-one}
use Rattle.std.proofs.lemmas.List.{drop-map, length-take, length-map}
use Rattle.std.proofs.lemmas.Grind.{common_steps}
use Rattle.std.specs.List.{position_or_len, list_any}
use Rattle.std.specs.Map.{lookup, keys_of}
use Rattle.indexmap.specs.IndexMap.{insert_entry}

-- after a first key that doesn't pass, the first that passes is nearer by one
nearer : {K : Type 0} (test : K → Bool) (k : K) (ks : List K) (n : ℕ) → test k ≡ false
    → position_or_len test (k ∷ ks) < suc n → position_or_len test ks < n
nearer test k ks n fails few =
    let at : cond (not (test k)) (1 + position_or_len test ks) 0 < suc n = few in
    let beyond : 1 + position_or_len test ks < suc n =
    subst (λ b. cond (not b) (1 + position_or_len test ks) 0 < suc n) fails at in
    omega (arith, beyond)

place_of : {X : Type 0} (p : X → Bool) (xs : List X) (i : ℕ) → position p xs ≡ Some i
    → (position_or_len p xs ≡ i) × (i < length xs)
place_of p xs i is = (grind (arith, common_steps), grind (arith, common_steps))

module _ {K V : Type 0} (test : K → Bool) where
  -- an entry more in front of two lists
  cut_after : (e : K × V) (es cut : List (K × V)) (b : Bool) → test e.0 ≡ b
      → (b ≡ false → lookup test cut ≡ lookup test es) → lookup test (e ∷ cut) ≡ lookup test (e ∷ es)
  cut_after e es cut true is same = rw is refl
  cut_after e es cut false is same = rw is (same refl)

  within : (es : List (K × V)) (n : ℕ) → position_or_len test (keys_of es) < n
      → lookup test (take n es) ≡ lookup test es
  within [] zero few = refl
  within [] (suc n) few = refl
  within (e ∷ es) zero few = absurd (omega (arith, few))
  within (e ∷ es) (suc n) few =
      cut_after e es (take n es) (test e.0) refl (λ fails. within es n (nearer test e.0 (keys_of es) n fails few))

  none_in : (e : K × V) (es : List (K × V)) (n : ℕ) (b : Bool) → test e.0 ≡ b
      → suc n ≤ cond (not (test e.0)) (1 + position_or_len test (keys_of es)) 0
      → (n ≤ position_or_len test (keys_of es) → lookup test (take n es) ≡ None)
      → lookup test (e ∷ take n es) ≡ None
  none_in e es n true is far rest =
      let none : suc n ≤ 0 = subst (λ b. suc n ≤ cond (not b) (1 + position_or_len test (keys_of es)) 0) is far in
      absurd (omega (arith, none))
  none_in e es n false is far rest =
      let beyond : suc n ≤ 1 + position_or_len test (keys_of es) =
      subst (λ b. suc n ≤ cond (not b) (1 + position_or_len test (keys_of es)) 0) is far in
      rw is (rest (omega (arith, beyond)))

  beyond : (es : List (K × V)) (n : ℕ) → n ≤ position_or_len test (keys_of es) → lookup test (take n es) ≡ None
  beyond es zero far = refl
  beyond [] (suc n) far = refl
  beyond (e ∷ es) (suc n) far = none_in e es n (test e.0) refl far (beyond es n)

  none_too : (e : K × V) (es cut : List (K × V)) (b : Bool) → test e.0 ≡ b
      → cond (test e.0) (Some e.1) (lookup test es) ≡ None → (lookup test es ≡ None → lookup test cut ≡ None)
      → lookup test (e ∷ cut) ≡ None
  none_too e es cut true is none rest =
      let some : ◌≡◌ {A = Option V} (Some e.1) None = subst (λ b. cond b (Some e.1) (lookup test es) ≡ None) is none in
      absurd cc
  none_too e es cut false is none rest =
      rw is (rest (subst (λ b. cond b (Some e.1) (lookup test es) ≡ None) is none))

  -- a key that has no value has none among the first
  pub lookup_absent : (es : List (K × V)) (n : ℕ) → lookup test es ≡ None → lookup test (take n es) ≡ None
  lookup_absent es zero none = refl
  lookup_absent [] (suc n) none = refl
  lookup_absent (e ∷ es) (suc n) none = none_too e es (take n es) (test e.0) refl none (lookup_absent es n)

  -- a key that is among the first has its value there
  pub lookup_within : (es : List (K × V)) (n i : ℕ) → position test (keys_of es) ≡ Some i → i < n
      → lookup test (take n es) ≡ lookup test es
  lookup_within es n i is few =
      let at : position_or_len test (keys_of es) ≡ i = (place_of test (keys_of es) i is).0 in
      within es n (omega (arith, at, few))

  -- a key that isn't among them has none
  pub lookup_beyond : (es : List (K × V)) (n i : ℕ) → position test (keys_of es) ≡ Some i → n ≤ i
      → lookup test (take n es) ≡ None
  lookup_beyond es n i is far =
      let at : position_or_len test (keys_of es) ≡ i = (place_of test (keys_of es) i is).0 in
      beyond es n (omega (arith, at, far))

module _ {K V : Type 0} (eq : K → K → Bool) (k : K) (v : V) where
  next_after : (e : K × V) (es cut longer : List (K × V)) (m : ℕ) (b : Bool) → eq k e.0 ≡ b
      → cond (not (eq k e.0)) (1 + position_or_len (eq k) (keys_of es)) 0 ≡ suc m
      → (position_or_len (eq k) (keys_of es) ≡ m → insert_entry eq cut k v ≡ longer)
      → insert_entry eq (e ∷ cut) k v ≡ e ∷ longer
  next_after e es cut longer m true is at rest =
      let none : 0 ≡ suc m = subst (λ b. cond (not b) (1 + position_or_len (eq k) (keys_of es)) 0 ≡ suc m) is at in
      absurd (omega (arith, none))
  next_after e es cut longer m false is at rest =
      let one : 1 + position_or_len (eq k) (keys_of es) ≡ suc m =
      subst (λ b. cond (not b) (1 + position_or_len (eq k) (keys_of es)) 0 ≡ suc m) is at in
      rw is (ap (λ (es : List (K × V)). e ∷ es) (rest (omega (arith, one))))

  next : (es : List (K × V)) (n : ℕ) → position_or_len (eq k) (keys_of es) ≡ n → slice_get es n ≡ Some (k, v)
      → insert_entry eq (take n es) k v ≡ take (suc n) es
  next [] n at there = absurd cc
  next (e ∷ es) zero at there =
      let same : e ≡ (k, v) = cc in
      rw same refl
  next (e ∷ es) (suc m) at there =
      next_after e es (take m es) (take (suc m) es) m (eq k e.0) refl at (λ nearer. next es m nearer there)

  -- the next of a table is added to those before it
  pub insert_next : (es : List (K × V)) (n : ℕ) → position (eq k) (keys_of es) ≡ Some n → slice_get es n ≡ Some (k, v)
      → insert_entry eq (take n es) k v ≡ take (n + 1) es
  insert_next es n is there =
      let at : position_or_len (eq k) (keys_of es) ≡ n = grind (arith, common_steps) in
      rw add-one (next es n at there)

one_after : (a b : ℕ) → nat_lt a b ≡ nat_lt (1 + a) (suc b)
one_after a b = grind arith

module _ {X : Type 0} (p : X → Bool) where
  any_after : (x : X) (xs : List X) (b : Bool) → p x ≡ b
      → list_any p xs ≡ nat_lt (position_or_len p xs) (length xs)
      → (p x || list_any p xs) ≡ nat_lt (cond (not (p x)) (1 + position_or_len p xs) 0) (suc (length xs))
  any_after x xs true is same = rw is (grind arith)
  any_after x xs false is same = rw is (same ∙ one_after (position_or_len p xs) (length xs))

  pub any_is : (xs : List X) → list_any p xs ≡ nat_lt (position_or_len p xs) (length xs)
  any_is [] = refl
  any_is (x ∷ xs) = any_after x xs (p x) refl (any_is xs)

  cut_at : (x : X) (xs cut : List X) (n : ℕ) (b : Bool) → p x ≡ b
      → position_or_len p cut ≡ min n (position_or_len p xs)
      → cond (not (p x)) (1 + position_or_len p cut) 0 ≡ min (suc n) (cond (not (p x)) (1 + position_or_len p xs) 0)
  cut_at x xs cut n true is same = rw is (grind arith)
  cut_at x xs cut n false is same = rw is (grind (arith, same))

  pub first_in : (xs : List X) (n : ℕ) → position_or_len p (take n xs) ≡ min n (position_or_len p xs)
  first_in xs zero = grind arith
  first_in [] (suc n) = grind arith
  first_in (x ∷ xs) (suc n) = cut_at x xs (take n xs) n (p x) refl (first_in xs n)

  pub position_within : (xs : List X) (n i : ℕ) → position p xs ≡ Some i → i < n → position p (take n xs) ≡ Some i
  position_within xs n i is few =
      let at = place_of p xs i is in
      rw (first_in xs n, length-take n xs, at.0) (grind (arith, at.1, few))

  pub position_beyond : (xs : List X) (n i : ℕ) → position p xs ≡ Some i → n ≤ i → position p (take n xs) ≡ None
  position_beyond xs n i is far =
      let at = place_of p xs i is in
      rw (first_in xs n, length-take n xs, at.0) (grind (arith, at.1, far))

  pub any_within : (xs : List X) (n i : ℕ) → position p xs ≡ Some i → i < n → list_any p (take n xs) ≡ true
  any_within xs n i is few =
      let at = place_of p xs i is in
      any_is (take n xs) ∙ rw (first_in xs n, length-take n xs, at.0) (grind (arith, at.1, few))

  pub any_beyond : (xs : List X) (n i : ℕ) → position p xs ≡ Some i → n ≤ i → list_any p (take n xs) ≡ false
  any_beyond xs n i is far =
      let at = place_of p xs i is in
      any_is (take n xs) ∙ rw (first_in xs n, length-take n xs, at.0) (grind (arith, at.1, far))

  pub position_absent : (xs : List X) (n : ℕ) → position p xs ≡ None → position p (take n xs) ≡ None
  position_absent xs n is =
      let far : length xs ≤ position_or_len p xs = grind (arith, common_steps) in
      rw (first_in xs n, length-take n xs) (grind (arith, far))

  -- one passes if there is a first
  pub some_is : (xs : List X) → is_some (position p xs) ≡ list_any p xs
  some_is xs = by (nat_lt (position_or_len p xs) (length xs)) ∙ sym (any_is xs)
    where
      by : (b : Bool) → is_some (cond b (Some (position_or_len p xs)) None) ≡ b
      by true = refl
      by false = refl

module _ {X Y : Type 0} (f : X → Y) (p : Y → Bool) where
  pub first_mapped : (xs : List X) → position_or_len p (map f xs) ≡ position_or_len (λ x. p (f x)) xs
  first_mapped [] = refl
  first_mapped (x ∷ xs) = ap (λ n. cond (not (p (f x))) (1 + n) 0) (first_mapped xs)

  pub any_mapped : (xs : List X) → list_any p (map f xs) ≡ list_any (λ x. p (f x)) xs
  any_mapped [] = refl
  any_mapped (x ∷ xs) = ap (λ b. p (f x) || b) (any_mapped xs)

  pub position_mapped : (xs : List X) → position p (map f xs) ≡ position (λ x. p (f x)) xs
  position_mapped xs = rw (first_mapped xs, length-map xs f) refl

next_of : {X : Type 0} (xs : List X) (n : ℕ) (x : X) → slice_get xs n ≡ Some x
    → take (suc n) xs ≡ take n xs ++ x ∷ []
next_of [] n x there = absurd cc
next_of (y ∷ ys) zero x there = cc
next_of {X = X} (y ∷ ys) (suc n) x there = ap (λ (zs : List X). y ∷ zs) (next_of ys n x there)

-- one more of a list
pub next_in : {X : Type 0} (xs : List X) (n : ℕ) (x : X) → slice_get xs n ≡ Some x
    → take (n + 1) xs ≡ take n xs ++ x ∷ []
next_in xs n x there = rw add-one (next_of xs n x there)

-- an item, and those after it
pub drop_at : {X : Type 0} (xs : List X) (i : ℕ) (x : X) → slice_get xs i ≡ Some x → drop i xs ≡ x ∷ drop (i + 1) xs
drop_at xs i x there = rw add-one (item_of xs i x there)
  where
    item_of : {X : Type 0} (xs : List X) (i : ℕ) (x : X) → slice_get xs i ≡ Some x → drop i xs ≡ x ∷ drop (suc i) xs
    item_of [] i x there = absurd cc
    item_of (y ∷ ys) zero x there = cc
    item_of (y ∷ ys) (suc i) x there = item_of ys i x there

-- the same among the first of a list
pub front_at : {X : Type 0} (xs : List X) (n i : ℕ) (x : X) → i < n → slice_get xs i ≡ Some x
    → drop i (take n xs) ≡ x ∷ drop (i + 1) (take n xs)
front_at xs n i x few there = drop_at (take n xs) i x (within_front xs n i few ∙ there)
  where
    within_front : {X : Type 0} (xs : List X) (n i : ℕ) → i < n → slice_get (take n xs) i ≡ slice_get xs i
    within_front xs zero i few = absurd (omega (arith, few))
    within_front [] (suc n) i few = refl
    within_front (y ∷ ys) (suc n) zero few = refl
    within_front (y ∷ ys) (suc n) (suc i) few = within_front ys n i (omega (arith, few))

-- the same of what a function makes of the items
pub mapped_at : {X Y : Type 0} (f : X → Y) (xs : List X) (i : ℕ) (x : X) → drop i xs ≡ x ∷ drop (i + 1) xs
    → drop i (map f xs) ≡ f x ∷ drop (i + 1) (map f xs)
mapped_at f xs i x at = rw (drop-map f i xs, drop-map f (i + 1) xs) (ap (map f) at)
