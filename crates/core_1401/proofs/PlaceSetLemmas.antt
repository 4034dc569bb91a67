-- A set of places by words of bits.
use Rattle.std.proofs.Common.{◌≡◌, ℕ, ◌+◌, ◌-◌, ◌/◌, ◌^◌, ◌<◌, ◌≤◌, ◌==◌, false, List}
use Rattle.std.proofs.Common.{ap, sym, ◌∙◌, arith, replicate, inl, inr}
use Rattle.std.proofs.Math.Nat.{div-eq_of_lt}
use Rattle.std.proofs.lemmas.Nat.{pow_pos}
use Rattle.std.proofs.lemmas.Nat.Bits.{bit_at-zero}
use Rattle.std.specs.Int.{bit_at, w64, leading_zeros}
use Rattle.std.proofs.lemmas.Bool.{cases_lt, false≢true}
use Rattle.core_1401.specs.MarkWords.{mark_bit, IsFirstMark, IsWindowDown}
use Rattle.core_1401.specs.PlaceSet.{has_place, HasNone}
use Rattle.core_1401.proofs.BitLemmas.{IsTop, bit_shr, top_bit, highest}
use Rattle.core_1401.proofs.HeldLemmas.{none_marked}

-- without a bit there is no place
pub none_there : (words : List ℕ) (at : ℕ) → words ≡ replicate 252 0 → has_place words at ≡ false
none_there words at e = ap (λ (b : ℕ). b == 1) (none_marked words 252 at e)

-- none is nearer than the first bit below
pub none_near : (words : List ℕ) (at first n : ℕ) → IsFirstMark words at first → n ≤ first → HasNone words at n
none_near words at first n is near =
    λ place le within.
    let q : at - (at - place) ≡ place = omega (arith, le) in
    ap (λ (b : ℕ). b == 1) (ap (mark_bit words) (sym q)
    ∙ is.none_before (at - place) (omega (arith, within, near)) (omega arith))

-- and there it is
pub some_near : (words : List ℕ) (at first n : ℕ) → IsFirstMark words at first → first < n → n ≤ at + 1
    → HasNone words at n → ⊥
some_near words at first n is near places none =
    false≢true (sym (none (at - first) (omega arith) (omega (arith, near, places)))
    ∙ ap (λ (b : ℕ). b == 1) (is.mark_there (omega (arith, near, places))))

-- an empty window
pub none_in_empty : (words : List ℕ) (at w : ℕ) → IsWindowDown words at w → w ≡ 0 → HasNone words at 64
none_in_empty words at w window empty =
    λ place le within.
    let q : at - (at - place) ≡ place = omega (arith, le) in
    ap (λ (b : ℕ). b == 1) (ap (mark_bit words) (sym q)
    ∙ sym (window (at - place) (omega (arith, within)) (omega arith))
    ∙ ap (λ (v : ℕ). bit_at v (63 - (at - place))) empty ∙ bit_at-zero (63 - (at - place)))

-- a window whose highest n bits are none
pub none_in_window : (words : List ℕ) (at w n : ℕ) → IsWindowDown words at w → n ≤ 64 → w / 2 ^ (64 - n) ≡ 0
    → HasNone words at n
none_in_window words at w n window most none =
    λ place le within.
    let j : ℕ = at - place in
    let q : at - j ≡ place = omega (arith, le) in
    let bit : bit_at w (63 - j) ≡ 0 =
    ap (λ (i : ℕ). bit_at w i) (omega (arith, within, most))
    ∙ sym (bit_shr w (64 - n) (n - 1 - j)) ∙ ap (λ (v : ℕ). bit_at v (n - 1 - j)) none ∙ bit_at-zero (n - 1 - j) in
    ap (λ (b : ℕ). b == 1) (ap (mark_bit words) (sym q)
    ∙ sym (window j (omega (arith, within, most)) (omega arith)) ∙ bit)

-- and one with some bit among them
pub some_in_window : (words : List ℕ) (at w n : ℕ) → IsWindowDown words at w → w < 2 ^ 64 → n ≤ 64 → n ≤ at + 1
    → HasNone words at n → w / 2 ^ (64 - n) ≡ 0
some_in_window words at w n window fits most places none =
    elim (cases_lt 0 w) [
      | inr empty ↦ div-eq_of_lt (omega (arith, empty, pow_pos (64 - n)))
      | inl some ↦
          let top : IsTop w (leading_zeros w64 w) = top_bit w some fits in
          let t : ℕ = leading_zeros w64 w in
          elim (cases_lt t n) [
            | inl near ↦ absurd (false≢true (sym (none (at - t) (omega arith) (omega (arith, near, places)))
                ∙ ap (λ (b : ℕ). b == 1) (ap (mark_bit words) (omega (arith, near, places))
                ∙ sym (window t top.within (omega (arith, near, places))) ∙ top.is_set)))
            | inr far ↦ div-eq_of_lt (highest w some fits n far most)
          ]
    ]
