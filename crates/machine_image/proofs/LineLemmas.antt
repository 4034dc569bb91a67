-- The parts of a text between its line feeds.
use Rattle.std.proofs.Common.{◌≡◌, ℕ, ◌+◌, ◌<◌, ◌≤◌, ◌==◌, Bool, true, false, cond, ltb, List, [], ◌∷◌, length, take}
use Rattle.std.proofs.Common.{drop, Option, Some, None, refl, ap, subst, arith}
use Rattle.std.specs.Prelude.{position, not}
use Rattle.std.specs.List.{onto_first, position_or_len}
use Rattle.std.proofs.lemmas.Bool.{ltb-false, ltb-true}
use Rattle.std.proofs.lemmas.Option.{cond_some}
use Rattle.std.proofs.lemmas.List.Splits.{slice_split_first}
use Rattle.machine_image.specs.Reading.{parts_of, is_done}

-- whether a byte ends a line
abbrev is_feed : ℕ → Bool
is_feed byte = byte == 10

no_place : (b : Bool) (n : ℕ) → cond {A = Option ℕ} b (Some n) None ≡ None → b ≡ false
no_place true n h = cc
no_place false n h = refl

whole_by : (b : Bool) (x : ℕ) (xs : List ℕ) (n : ℕ) (parts : List (List ℕ)) → 1 + length xs ≤ cond (not b) (1 + n) 0
    → (length xs ≤ n → parts ≡ xs ∷ [])
    → cond {A = List (List ℕ)} b ([] ∷ parts) (onto_first x parts) ≡ (x ∷ xs) ∷ []
whole_by true x xs n parts long more = absurd (omega arith)
whole_by false x xs n parts long more = ap (onto_first x) (more (omega arith))

whole_from : (text : List ℕ) → length text ≤ position_or_len is_feed text → parts_of text ≡ text ∷ []
whole_from [] long = refl
whole_from (x ∷ xs) long =
    whole_by (is_feed x) x xs (position_or_len is_feed xs) (parts_of xs) (omega arith) (λ more. whole_from xs more)

-- a text without a line feed is one part
pub parts_of-whole : (text : List ℕ) → position is_feed text ≡ None → parts_of text ≡ text ∷ []
parts_of-whole text h = whole_from text (ltb-false _ _ (no_place _ (position_or_len is_feed text) h))

-- up to the first line feed, and after it
pub parts_of-first : (text : List ℕ) (end : ℕ) → position is_feed text ≡ Some end → (end < length text)
    × (parts_of text ≡ take end text ∷ parts_of (drop (end + 1) text))
parts_of-first text end h =
    let found = cond_some (ltb (position_or_len is_feed text) (length text)) (position_or_len is_feed text) end h in
    let inside : position_or_len is_feed text < length text = ltb-true _ _ found.0 in
    let first = slice_split_first is_feed text 0 inside in (
      omega (arith, inside, found.1),
      subst (λ (n : ℕ). parts_of text ≡ take n text
          ∷ parts_of (drop (n + 1) text)) found.1 first,
    )

some_by : (b : Bool) (x : ℕ) (parts : List (List ℕ)) → (first : List ℕ) × (more : List (List ℕ))
    × (cond {A = List (List ℕ)} b ([] ∷ parts) (onto_first x parts) ≡ first ∷ more)
some_by true x parts = ([], parts, refl)
some_by false x [] = (x ∷ [], [], refl)
some_by false x (part ∷ parts) = (x ∷ part, parts, refl)

-- there is always a part
pub parts_of-some : (text : List ℕ) → (first : List ℕ) × (more : List (List ℕ)) × (parts_of text ≡ first ∷ more)
parts_of-some [] = ([], [], refl)
parts_of-some (x ∷ xs) = some_by (is_feed x) x (parts_of xs)

left_by : (b : Bool) (x : ℕ) (first : List ℕ) (more parts : List (List ℕ)) → parts ≡ first ∷ more
    → is_done (cond {A = List (List ℕ)} b ([] ∷ parts) (onto_first x parts)) ≡ false
left_by true x first more parts e = rw e refl
left_by false x first more parts e = rw e refl

-- a byte is left
pub is_done-some : (text : List ℕ) → 0 < length text → is_done (parts_of text) ≡ false
is_done-some [] some = absurd (omega arith)
is_done-some (x ∷ xs) some = let parts = parts_of-some xs in left_by (is_feed x) x parts.0 parts.1 (parts_of xs) parts.2
