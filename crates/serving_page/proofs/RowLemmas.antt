-- Rows of text, one after another.
use Rattle.std.proofs.Common.{◌≡◌, ℕ, ◌+◌, List, [], ◌∷◌, ◌++◌, ap, sym, ◌∙◌, arith}
use Rattle.std.specs.List.{flat_map, range_with_len}
use Rattle.std.proofs.lemmas.List.{flat_map_more, map-id}
use Rattle.std.proofs.lemmas.List.FromFn.{map-range_with_len_more}

range_more : (n : ℕ) → range_with_len 0 (n + 1) ≡ range_with_len 0 n ++ n ∷ []
range_more n =
    sym (map-id (range_with_len 0 (n + 1)))
    ∙ map-range_with_len_more (λ x. x) 0 n n (omega arith)
    ∙ ap (λ xs. xs ++ n ∷ []) (map-id (range_with_len 0 n))

-- the texts of the numbers below n, and that of n, are those of the numbers below n + 1
pub row_more : (row : ℕ → List ℕ) (n : ℕ)
    → flat_map row (range_with_len 0 n) ++ row n ≡ flat_map row (range_with_len 0 (n + 1))
row_more row n =
    flat_map_more row [] (range_with_len 0 n) n ∙ ap (λ (xs : List ℕ). flat_map row xs) (sym (range_more n))
