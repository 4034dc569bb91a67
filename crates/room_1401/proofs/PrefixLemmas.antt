-- Beginnings of one list.
use Rattle.std.proofs.Common.{◌≡◌, ◌≤◌, List, [], ◌∷◌, ◌++◌, length}
use Rattle.std.proofs.Common.{refl, ap, sym, ◌∙◌, arith, append_assoc}
use mathlib.Core.List.{IsPrefix}

-- each list begins with itself
pub prefix_self : {A : Type 0} (xs : List A) → IsPrefix xs xs
prefix_self [] = ([], refl)
prefix_self (x ∷ xs) = (let rest = prefix_self xs in rest.0, ap (λ ys. x ∷ ys) (prefix_self xs).1)

pub prefix_trans : {A : Type 0} (xs ys zs : List A) → IsPrefix xs ys → IsPrefix ys zs → IsPrefix xs zs
prefix_trans xs ys zs p q =
    (p.0 ++ q.0, sym (append_assoc xs p.0 q.0) ∙ (ap (λ more. more ++ q.0) p.1 ∙ q.1))

abbrev rest_of : {A : Type 0} → List A → List A
rest_of [] = []
rest_of (x ∷ xs) = xs

abbrev first_of : {A : Type 0} → A → List A → A
first_of other [] = other
first_of other (x ∷ xs) = x

-- of two beginnings of one list the shorter begins the longer
pub prefix_shorter : {A : Type 0} (xs ys zs : List A)
    → IsPrefix xs zs → IsPrefix ys zs → length xs ≤ length ys → IsPrefix xs ys
prefix_shorter [] ys zs p q le = (ys, refl)
prefix_shorter (x ∷ xs) [] zs p q le = absurd (omega arith)
prefix_shorter {A} (x ∷ xs) (y ∷ ys) zs p q le =
    let first : x ≡ y = ap (first_of x) (p.1 ∙ sym q.1) in
    let rest = prefix_shorter xs ys (rest_of zs) (p.0, ap rest_of p.1) (q.0, ap rest_of q.1) (omega arith) in
    (rest.0, ap (λ (z : A). z ∷ (xs ++ rest.0)) first ∙ ap (λ (l : List A). y ∷ l) rest.1)

-- a beginning as long as the whole is the whole
pub prefix_whole : {A : Type 0} (xs ys : List A) → IsPrefix xs ys → length ys ≤ length xs → xs ≡ ys
prefix_whole [] [] p le = refl
prefix_whole [] (y ∷ ys) p le = absurd (omega arith)
prefix_whole (x ∷ xs) [] p le = absurd (cc (p.1))
prefix_whole {A} (x ∷ xs) (y ∷ ys) p le =
    let first : x ≡ y = ap (first_of x) p.1 in
    let rest : xs ≡ ys = prefix_whole xs ys (p.0, ap rest_of p.1) (omega arith) in
    ap (λ (l : List A). x ∷ l) rest ∙ ap (λ (z : A). z ∷ ys) first
