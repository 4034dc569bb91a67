-- The elements of a list that are changed one after the other.
use Rattle.std.proofs.Common.{◌≡◌, ℕ, ◌+◌, ◌-◌, ◌<◌, List, [], ◌∷◌, ◌++◌, length, map, take, drop, get_or, slice_set}
use Rattle.std.proofs.Common.{ap, sym, ◌∙◌, arith, append_assoc, length-take}
use Rattle.std.proofs.lemmas.List.{drop_more, get_or-append_right, length-map, map_push, set_at, take_more}

-- one element more is changed
pub changed-more : (X : Type 0) (f : X → X) (before now : List X) (i : ℕ) (any new : X) → i < length before
    → now ≡ map f (take i before) ++ drop i before → new ≡ f (get_or now i any)
    → slice_set now i new ≡ map f (take (i + 1) before) ++ drop (i + 1) before
changed-more X f before now i any new h so_far new_is =
    let front : List X = map f (take i before) in
    let rest : List X = drop (i + 1) before in
    let next : X = get_or before i any in
    let here : drop i before ≡ next ∷ rest = drop_more before i any h in
    let count : length front ≡ i = length-map (take i before) f ∙ omega (arith, length-take i before) in
    let none : i - i ≡ 0 = omega arith in
    let old_is : get_or now i any ≡ next =
    ap (λ (xs : List X). get_or xs i any) so_far
    ∙ get_or-append_right front (drop i before) i i any count (omega arith)
    ∙ ap (λ n. get_or (drop i before) n any) none
    ∙ ap (λ (xs : List X). get_or xs 0 any) here in
    ap (λ (xs : List X). slice_set xs i new) so_far
    ∙ ap (λ (xs : List X). slice_set (front ++ xs) i new) here
    ∙ set_at front next rest new i count
    ∙ ap (λ x. front ++ x ∷ rest) (new_is ∙ ap f old_is)
    ∙ sym (append_assoc front (f next ∷ []) rest)
    ∙ ap (λ (xs : List X). xs ++ rest) (sym (map_push f (take i before) next))
    ∙ ap (λ (xs : List X). map f xs ++ rest) (sym (take_more before i any h))
