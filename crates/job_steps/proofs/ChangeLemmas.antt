-- Changes found place by place.
use Rattle.std.proofs.Common.{◌≡◌, ℕ, ◌+◌, ◌<◌, ◌≤◌, zero, suc, Bool, true, false, List, [], ◌∷◌, ◌==◌, length, take}
use Rattle.std.proofs.Common.{drop}
use Rattle.std.proofs.Common.{get_or, refl, sym, ◌∙◌, ap, subst, arith, inl, inr}
use Rattle.std.proofs.lemmas.Bool.{cases_lt}
use Rattle.std.proofs.lemmas.List.{drop_more, drop_all}
use Rattle.std.specs.Prelude.{if◌then◌else◌}
use Rattle.bcd_1401.specs.declared.cell.Cell.{Cell}
use Rattle.core_1401.specs.Storage.{Storage, blank, cell_at}
use Rattle.job_steps.specs.Changes.{Change, change, change_at, changes_from, changes_on, in_front, is_changed}
use Rattle.job_steps.specs.Changes.{with_place}

-- the first of the places that are left
place : (before after : Storage) (at : ℕ) → at < length before → at < length after
    → changes_on at before after
    ≡ with_place at (cell_at before at) (cell_at after at) (changes_on (at + 1) before after)
unfolding changes_from
place before after at b_in a_in =
    ap (λ (xs : List Cell). changes_from at xs (drop at after)) (drop_more before at blank b_in)
    ∙ ap (λ (ys : List Cell). changes_from at (cell_at before at ∷ drop (at + 1) before) ys)
    (drop_more after at blank a_in)

-- one that didn't change
same_place : (before after : Storage) (at : ℕ) → at < length before → at < length after
    → is_changed (cell_at before at) (cell_at after at) ≡ false
    → changes_on at before after ≡ changes_on (at + 1) before after
same_place before after at b_in a_in same =
    let more = changes_on (at + 1) before after in
    place before after at b_in a_in
    ∙ ap (λ (b : Bool). if b then in_front at (cell_at before at) (cell_at after at) more else more) same

-- one that did
changed_place : (before after : Storage) (at : ℕ) → at < length before → at < length after
    → is_changed (cell_at before at) (cell_at after at) ≡ true
    → changes_on at before after
    ≡ in_front at (cell_at before at) (cell_at after at) (changes_on (at + 1) before after)
changed_place before after at b_in a_in other =
    let more = changes_on (at + 1) before after in
    place before after at b_in a_in
    ∙ ap (λ (b : Bool). if b then in_front at (cell_at before at) (cell_at after at) more else more) other

-- places that didn't change add nothing
pub same_places : (n : ℕ) (before after : Storage) (at : ℕ) → at + n ≤ length before → at + n ≤ length after
    → ((i : ℕ) → at ≤ i → i < at + n → is_changed (cell_at before i) (cell_at after i) ≡ false)
    → changes_on at before after ≡ changes_on (at + n) before after
same_places zero before after at b_in a_in same =
    let e : at ≡ at + zero = omega arith in
    ap (λ (k : ℕ). changes_on k before after) e
same_places (suc n) before after at b_in a_in same =
    let e : (at + 1) + n ≡ at + suc n = omega arith in
    same_place before after at (omega (arith, b_in)) (omega (arith, a_in)) (same at (omega arith) (omega arith))
    ∙ same_places n before after (at + 1) (omega (arith, b_in)) (omega (arith, a_in))
    (λ i least most. same i (omega (arith, least)) (omega (arith, most)))
    ∙ ap (λ (k : ℕ). changes_on k before after) e

-- the first change begins at an address or above it
abbrev IsFrom : ℕ → List Change → Type 0
IsFrom at [] = Unit {0}
IsFrom at (next ∷ more) = at ≤ next.address

is_above : (at : ℕ) (changes : List Change) → IsFrom (at + 1) changes → IsFrom at changes
is_above at [] h = tt
is_above at (next ∷ more) h = omega (arith, h)

in_front_is_from : (at : ℕ) (x y : Cell) (changes : List Change) → IsFrom at (in_front at x y changes)
in_front_is_from at x y [] = omega arith
in_front_is_from at x y (next ∷ more) = from_either (next.address == at + 1)
  where
    from_either : (b : Bool) → IsFrom at (if b then change at (x ∷ next.before) (y ∷ next.after) ∷ more
        else change at (x ∷ []) (y ∷ []) ∷ next ∷ more)
    from_either true = omega arith
    from_either false = omega arith

with_place_is_from : (at : ℕ) (x y : Cell) (changes : List Change) → IsFrom (at + 1) changes
    → IsFrom at (with_place at x y changes)
with_place_is_from at x y changes h = from_either (is_changed x y)
  where
    from_either : (b : Bool) → IsFrom at (if b then in_front at x y changes else changes)
    from_either true = in_front_is_from at x y changes
    from_either false = is_above at changes h

are_from : (before after : List Cell) (at : ℕ) → IsFrom at (changes_from at before after)
unfolding changes_from
are_from [] after at = tt
are_from (x ∷ before) [] at = tt
are_from (x ∷ before) (y ∷ after) at =
    with_place_is_from at x y (changes_from (at + 1) before after) (are_from before after (at + 1))

-- a change that doesn't begin at the next place is one of its own
apart : (at : ℕ) (x y : Cell) (changes : List Change) → IsFrom (at + 1 + 1) changes
    → in_front at x y changes ≡ change at (x ∷ []) (y ∷ []) ∷ changes
apart at x y [] h = refl
apart at x y (next ∷ more) h =
    let other : (next.address == at + 1) ≡ false = search (arith, h) in
    ap (λ (b : Bool). if b then change at (x ∷ next.before) (y ∷ next.after) ∷ more
    else change at (x ∷ []) (y ∷ []) ∷ next ∷ more) other

-- nothing is left at the end of core
none_left : (at : ℕ) (ys : List Cell) → changes_from at [] ys ≡ []
unfolding changes_from
none_left at ys = refl

pub nothing_on : (before after : Storage) (at : ℕ) → length before ≤ at → changes_on at before after ≡ []
nothing_on before after at past =
    ap (λ (xs : List Cell). changes_from at xs (drop at after)) (drop_all at before past) ∙ none_left at (drop at after)

-- the place after a change begins none
ends : (before after : Storage) (at : ℕ) → length before ≡ length after → at ≤ length after
    → (at < length after → is_changed (cell_at before at) (cell_at after at) ≡ false)
    → IsFrom (at + 1) (changes_on at before after)
ends before after at same within other = elim (cases_lt at (length after)) [
  | inl lt ↦ subst (IsFrom (at + 1)) (sym (same_place before after at (omega (arith, lt, same)) lt (other lt)))
      (are_from (drop (at + 1) before) (drop (at + 1) after) (at + 1))
  | inr past ↦ subst (IsFrom (at + 1)) (sym (nothing_on before after at (omega (arith, past, same)))) tt
]

-- one place in front of a change
joined : (at : ℕ) (x y : Cell) (before after : List Cell) (more : List Change)
    → in_front at x y (change (at + 1) before after ∷ more) ≡ change at (x ∷ before) (y ∷ after) ∷ more
joined at x y before after more =
    let next : (at + 1 == at + 1) ≡ true = search arith in
    ap (λ (b : Bool). if b then change at (x ∷ before) (y ∷ after) ∷ more
    else change at (x ∷ []) (y ∷ []) ∷ change (at + 1) before after ∷ more) next

-- the cells of a change, the first in front
pub one_more : (xs : List Cell) (at n : ℕ) → at < length xs
    → take (suc n) (drop at xs) ≡ get_or xs at blank ∷ take n (drop (at + 1) xs)
one_more xs at n within = ap (λ (ys : List Cell). take (suc n) ys) (drop_more xs at blank within)

-- places that changed, up to one that didn't or to the end of core, are one change
pub changed_places : (n : ℕ) (before after : Storage) (at : ℕ) → length before ≡ length after
    → at + suc n ≤ length after
    → ((i : ℕ) → at ≤ i → i < at + suc n → is_changed (cell_at before i) (cell_at after i) ≡ true)
    → (at + suc n < length after → is_changed (cell_at before (at + suc n)) (cell_at after (at + suc n)) ≡ false)
    → changes_on at before after
    ≡ change_at at (suc n) before after ∷ changes_on (at + suc n) before after
changed_places zero before after at same within changed other =
    let e : at + 1 ≡ at + suc zero = omega arith in
    let x = cell_at before at in
    let y = cell_at after at in
    let more = changes_on (at + 1) before after in
    let beyond : IsFrom (at + 1 + 1) more =
    ends before after (at + 1) same (omega (arith, within))
    (λ lt. subst (λ (k : ℕ). is_changed (cell_at before k) (cell_at after k) ≡ false) (sym e)
    (other (omega (arith, lt, e)))) in
    changed_place before after at (omega (arith, within, same)) (omega (arith, within))
    (changed at (omega arith) (omega arith))
    ∙ apart at x y more beyond
    ∙ ap (λ (xs : List Cell). change at xs (y ∷ []) ∷ more) (sym (one_more before at zero (omega (arith, within, same))))
    ∙ ap (λ (ys : List Cell). change at (take (suc zero) (drop at before)) ys ∷ more)
    (sym (one_more after at zero (omega (arith, within))))
    ∙ ap (λ (k : ℕ). change_at at (suc zero) before after ∷ changes_on k before after) e
changed_places (suc n) before after at same within changed other =
    let e : (at + 1) + suc n ≡ at + suc (suc n) = omega arith in
    let x = cell_at before at in
    let y = cell_at after at in
    let more = changes_on ((at + 1) + suc n) before after in
    let rest = changed_places n before after (at + 1) same (omega (arith, within))
    (λ i least most. changed i (omega (arith, least)) (omega (arith, most)))
    (λ lt. subst (λ (k : ℕ). is_changed (cell_at before k) (cell_at after k) ≡ false) (sym e)
    (other (omega (arith, lt, e)))) in
    changed_place before after at (omega (arith, within, same)) (omega (arith, within))
    (changed at (omega arith) (omega arith))
    ∙ ap (λ (changes : List Change). in_front at x y changes) rest
    ∙ joined at x y (take (suc n) (drop (at + 1) before)) (take (suc n) (drop (at + 1) after)) more
    ∙ ap (λ (xs : List Cell). change at xs (y ∷ take (suc n) (drop (at + 1) after)) ∷ more)
    (sym (one_more before at (suc n) (omega (arith, within, same))))
    ∙ ap (λ (ys : List Cell). change at (take (suc (suc n)) (drop at before)) ys ∷ more)
    (sym (one_more after at (suc n) (omega (arith, within))))
    ∙ ap (λ (k : ℕ). change_at at (suc (suc n)) before after ∷ changes_on k before after) e
