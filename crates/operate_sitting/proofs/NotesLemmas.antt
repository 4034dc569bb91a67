-- A mark that takes the place of those after it, and the cards that are left after the first ones.
use Rattle.std.proofs.Common.{◌≡◌, ℕ, zero, suc, ◌+◌, ◌≤◌, List, [], ◌∷◌, ◌++◌, length, take, drop, refl, ◌∙◌, ap}
use Rattle.std.proofs.Common.{arith}
use Rattle.std.specs.List.{insert, slice_get}

pub inserted : {X : Type 0} (xs : List X) (i : ℕ) (x : X) → i ≤ length xs
    → take (i + 1) (insert xs i x) ≡ take i xs ++ x ∷ []
inserted xs zero x within = refl
inserted [] (suc i) x within = absurd (omega arith)
inserted {X} (first ∷ xs) (suc i) x within =
    let next : suc i + 1 ≡ suc (i + 1) = omega arith in
    rw next (ap (λ (rest : List X). first ∷ rest) (inserted xs i x (omega arith)))

-- a place of what is left of a list
pub left_at : {X : Type 0} (n : ℕ) (xs : List X) (k : ℕ) → slice_get (drop n xs) k ≡ slice_get xs (n + k)
left_at zero xs k = let none : k ≡ 0 + k = omega arith in ap (slice_get xs) none
left_at (suc n) [] k = refl
left_at (suc n) (x ∷ xs) k =
    let beyond : suc (n + k) ≡ suc n + k = omega arith in
    left_at n xs k ∙ ap (slice_get (x ∷ xs)) beyond
