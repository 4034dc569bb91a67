-- The blanks at the end of a line whose front and source are apart.
use Rattle.std.proofs.Common.{◌≡◌, ℕ, suc, ◌+◌, ◌-◌, ◌<◌, Bool, true, false, cond, List, [], ◌∷◌, ◌++◌, length, take, reverse}
use Rattle.std.proofs.Common.{refl, sym, ap, ◌∙◌, arith}
use Rattle.std.proofs.lemmas.List.{length-append, length-reverse, reverse-append, take-append-le}
use Rattle.std.proofs.lemmas.List.Sums.{suffix_len-le-length}
use Rattle.std.specs.List.{prefix_len, suffix_len}
use Rattle.autocoder_statements.specs.SourceLine.{is_blank}
use Rattle.autocoder_listing.specs.Listing.{without_last_blanks}

-- the first of all that passes are all of one list, and then those of the next
all_pass : (p : ℕ → Bool) (xs ys : List ℕ) → prefix_len p xs ≡ length xs
    → prefix_len p (xs ++ ys) ≡ length xs + prefix_len p ys
all_pass p [] ys all = omega arith
all_pass p (x ∷ xs) ys all = by (p x) refl (all_pass p xs ys)
  where
    by : (b : Bool) → p x ≡ b
        → (prefix_len p xs ≡ length xs → prefix_len p (xs ++ ys) ≡ length xs + prefix_len p ys)
        → prefix_len p ((x ∷ xs) ++ ys) ≡ length (x ∷ xs) + prefix_len p ys
    by true is more =
        let here : 1 + prefix_len p xs ≡ length (x ∷ xs) =
        ap (λ (b : Bool). cond b (1 + prefix_len p xs) 0) (sym is) ∙ all in
        ap (λ (b : Bool). cond b (1 + prefix_len p (xs ++ ys)) 0) is
        ∙ omega (arith, more (omega (arith, here)))
    by false is more =
        let here : 0 ≡ length (x ∷ xs) = ap (λ (b : Bool). cond b (1 + prefix_len p xs) 0) (sym is) ∙ all in
        absurd (omega (arith, here))

-- or they end in the first of two lists
some_pass : (p : ℕ → Bool) (xs ys : List ℕ) → prefix_len p xs < length xs
    → prefix_len p (xs ++ ys) ≡ prefix_len p xs
some_pass p [] ys few = absurd (omega (arith, few))
some_pass p (x ∷ xs) ys few = by (p x) refl (some_pass p xs ys)
  where
    by : (b : Bool) → p x ≡ b
        → (prefix_len p xs < length xs → prefix_len p (xs ++ ys) ≡ prefix_len p xs)
        → prefix_len p ((x ∷ xs) ++ ys) ≡ prefix_len p (x ∷ xs)
    by true is more =
        let here : prefix_len p (x ∷ xs) ≡ 1 + prefix_len p xs =
        ap (λ (b : Bool). cond b (1 + prefix_len p xs) 0) is in
        ap (λ (b : Bool). cond b (1 + prefix_len p (xs ++ ys)) 0) is
        ∙ ap (λ n. 1 + n) (more (omega (arith, few, here)))
        ∙ sym here
    by false is more =
        ap (λ (b : Bool). cond b (1 + prefix_len p (xs ++ ys)) 0) is
        ∙ sym (ap (λ (b : Bool). cond b (1 + prefix_len p xs) 0) is)

-- a source that is all blank is cut off, with the blanks before it
pub cut_front : (front source : List ℕ) → length source - suffix_len is_blank source ≡ 0
    → without_last_blanks front ≡ without_last_blanks (front ++ source)
unfolding without_last_blanks
cut_front front source blank =
    let all : suffix_len is_blank source ≡ length (reverse source) =
    omega (arith, blank, suffix_len-le-length is_blank source, length-reverse source) in
    let both : suffix_len is_blank (front ++ source) ≡ length source + suffix_len is_blank front =
    ap (prefix_len is_blank) (reverse-append front source)
    ∙ all_pass is_blank (reverse source) (reverse front) all
    ∙ ap (λ n. n + suffix_len is_blank front) (length-reverse source) in
    let len = length-append front source in
    sym (take-append-le (length front - suffix_len is_blank front) front source (omega arith))
    ∙ ap (λ n. take n (front ++ source)) (omega (arith, both, len))

-- of another one the front isn't cut
pub cut_source : (front source : List ℕ) → 0 < length source - suffix_len is_blank source
    → front ++ take (length source - suffix_len is_blank source) source ≡ without_last_blanks (front ++ source)
unfolding without_last_blanks
cut_source front source some =
    let few : prefix_len is_blank (reverse source) < length (reverse source) =
    omega (arith, some, length-reverse source) in
    let both : suffix_len is_blank (front ++ source) ≡ suffix_len is_blank source =
    ap (prefix_len is_blank) (reverse-append front source)
    ∙ some_pass is_blank (reverse source) (reverse front) few in
    take_more front source (length source - suffix_len is_blank source)
    ∙ ap (λ n. take n (front ++ source)) (omega (arith, both, some, length-append front source))
  where
    take_more : (xs ys : List ℕ) (n : ℕ) → xs ++ take n ys ≡ take (length xs + n) (xs ++ ys)
    take_more [] ys n = ap (λ count. take count ys) (omega arith)
    take_more (x ∷ xs) ys n =
        let both : suc (length xs + n) ≡ length (x ∷ xs) + n = omega arith in
        ap (λ rest. x ∷ rest) (take_more xs ys n) ∙ ap (λ count. take count ((x ∷ xs) ++ ys)) both
