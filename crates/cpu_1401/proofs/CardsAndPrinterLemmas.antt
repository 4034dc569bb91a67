-- Areas of storage, place by place.
use Rattle.std.proofs.Common.{◌≡◌, ℕ, ◌<◌, List, length, map, get_or, sym, ◌∙◌, arith}
use Rattle.std.proofs.lemmas.List.{ext_get_or}
use Rattle.std.proofs.lemmas.List.FromFn.{get_or-map-range_with_len, length-map-range_with_len}
use Rattle.std.specs.List.{range_with_len}

-- numbers that are each that of their place are the list of them all
pub all_of : (f : ℕ → ℕ) (n : ℕ) (xs : List ℕ) → length xs ≡ n → ((k : ℕ) → k < n → get_or xs k 0 ≡ f k)
    → xs ≡ map f (range_with_len 0 n)
all_of f n xs len each =
    ext_get_or 0 xs (map f (range_with_len 0 n)) (len ∙ sym (length-map-range_with_len f 0 n))
    (λ i within.
    let inside : i < n = omega (arith, len, within) in
    each i inside ∙ sym (get_or-map-range_with_len f 0 n i i 0 inside (omega arith)))
