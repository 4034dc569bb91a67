-- Marks in a window over two words, and the first of them.
use Rattle.std.proofs.Common.{◌≡◌, ◌≢◌, min, ℕ, ◌+◌, ◌-◌, ◌*◌, ◌/◌, ◌%◌, ◌^◌, ◌<◌, ◌≤◌, max, List, slice_index_or, inl}
use Rattle.std.proofs.Common.{inr, arith, refl, ◌∙◌, sym, ap, bit_and, bit_or}
use Rattle.std.specs.Int.{bit_at, bit_not, w64, leading_zeros, trailing_zeros}
use Rattle.std.proofs.lemmas.Bool.{cases_lt}
use Rattle.std.proofs.lemmas.Nat.{and_mask, and_le_l, or_lt}
use Rattle.std.proofs.lemmas.Nat.Bits.{bit_at-lt, bit_at_cat_low, bit_at_cat_high, bit_at_and, bit_at_not, bit_at_ones}
use Rattle.std.proofs.lemmas.Nat.Bits.{bit_at_ones_above, bit_at_mask_below, bit_at_mask_inside, bit_at_or}
use Rattle.std.proofs.lemmas.Nat.Bits.{bit_at_set_same, bit_at_set_other, bit_at-trailing_zeros, bit_at-zero, ones_shl}
use Rattle.std.proofs.lemmas.Nat.Bits.{ones_shr}
use Rattle.core_1401.specs.MarkWords.{mark_bit, IsWindowDown, IsWindowUp, IsFirstMark, IsFirstPair, IsNextMark}
use Rattle.core_1401.specs.MarkWords.{IsCleared, NoneBelow}
use Rattle.core_1401.proofs.BitLemmas.{bit_mod, bit_shr, window_bit, IsTop, top_bit}

-- the same mark under another name of its word and its bit
same_bit : (words : List ℕ) (i k at : ℕ) → i ≡ at / 64 + 1 → k ≡ at % 64
    → bit_at (slice_index_or words i 0) k ≡ mark_bit words at
same_bit words i k at e f =
    ap (λ (n : ℕ). bit_at (slice_index_or words n 0) k) e ∙ ap (λ (n : ℕ). bit_at
    (slice_index_or words (at / 64 + 1) 0) n) f

-- what a shift of two words leaves is a window
pub window_marks : (words : List ℕ) (at both : ℕ) → both ≡ slice_index_or words
    (at / 64 + 1) 0 * 2 ^ 64 + slice_index_or words (at / 64) 0
    → slice_index_or words (at / 64) 0 < 2 ^ 64 → IsWindowDown words at (both * 2 ^ (63 - at % 64) % 2 ^ 128 / 2 ^ 64)
window_marks words at both e fits j within le =
    let high : ℕ = slice_index_or words (at / 64 + 1) 0 in
    let low : ℕ = slice_index_or words (at / 64) 0 in
    let i : ℕ = 63 - j + at % 64 + 1 in
    window_bit both (at % 64) (63 - j) (omega arith) (omega arith)
    ∙ ap (λ (n : ℕ). bit_at n i) e
    ∙ (elim (cases_lt (at % 64) j) [
      | inl below ↦ bit_at_cat_low high 64 low i (omega (arith, below))
          ∙ same_bit words (at / 64) i (at - j) (omega (arith, below, le)) (omega (arith, below, le, within))
      | inr above ↦ bit_at_cat_high high 64 low i fits (omega (arith, above))
          ∙ same_bit words (at / 64 + 1) (i - 64) (at - j) (omega (arith, above, le)) (omega (arith, above, le, within))
    ])

-- the window of a place itself
pub window_here : (words : List ℕ) (at w : ℕ) → IsWindowDown words at w → IsWindowDown words (at - 0) w
window_here words at w window j within le =
    window j within (omega (arith, le)) ∙ ap (λ (n : ℕ). mark_bit words (n - j)) (omega arith)

-- a whole word is the window of its highest place
pub whole_word : (words : List ℕ) (at k : ℕ) → at % 64 ≡ 63 → k ≡ at / 64 + 1
    → IsWindowDown words at (slice_index_or words k 0)
whole_word words at k high e j within le =
    same_bit words k (63 - j) (at - j) (omega (arith, high, e, within, le)) (omega (arith, high, within, le))

-- the mark of a place in a window further down
lower_mark : (words : List ℕ) (at base w j : ℕ) → IsWindowDown words (at - base) w → base ≤ j → j < base + 64 → j ≤ at
    → bit_at w (63 - (j - base)) ≡ mark_bit words (at - j)
lower_mark words at base w j window from below le =
    let there : at - base - (j - base) ≡ at - j = omega (arith, from, le) in
    window (j - base) (omega (arith, from, below)) (omega (arith, from, le)) ∙ ap (λ (n : ℕ). mark_bit words n) there

-- an empty window has no mark
pub no_more : (words : List ℕ) (at base w next : ℕ) → NoneBelow words at base → IsWindowDown words (at - base) w → w ≡ 0
    → next ≡ base + 64 → NoneBelow words at next
no_more words at base w next none window empty e j h le =
    elim (cases_lt j base) [
      | inl before ↦ none j before le
      | inr from ↦ sym (lower_mark words at base w j window from (omega (arith, e, h)) le)
          ∙ ap (λ (n : ℕ). bit_at n (63 - (j - base))) empty ∙ bit_at-zero (63 - (j - base))
    ]

-- an empty word below those that were passed is passed too
pub passed_word : (words : List ℕ) (at base k : ℕ) → NoneBelow words at base → base + 64 * k ≡ at + 1
    → slice_index_or words k 0 ≡ 0 → NoneBelow words at (base + 64)
passed_word words at base k none place empty =
    elim (cases_lt k 1) [
      | inl guard ↦ λ j h le. none j (omega (arith, le, place, guard)) le
      | inr some ↦ no_more words at base (slice_index_or words k 0) (base + 64) none
          (whole_word words (at - base) k (omega (arith, place, some)) (omega (arith, place, some))) empty refl
    ]

-- the first mark is the highest bit of the first window that isn't empty
pub first_found : (words : List ℕ) (at base w : ℕ) → NoneBelow words at base → IsWindowDown words (at - base) w → 0 < w
    → w < 2 ^ 64
    → IsFirstMark words at (base + leading_zeros w64 w)
first_found words at base w none window some fits =
    let top : IsTop w (leading_zeros w64 w) = top_bit w some fits in
    let n : ℕ = base + leading_zeros w64 w in
    let there : n - base ≡ leading_zeros w64 w = omega arith in
    record {
      none_before = λ j h le. elim (cases_lt j base) [
        | inl before ↦ none j before le
        | inr from ↦ sym (lower_mark words at base w j window from (omega (arith, h, top.within)) le)
            ∙ top.none_above (j - base) (omega (arith, h, from))
      ];
      mark_there = λ le. sym (lower_mark words at base w n window (omega arith) (omega (arith, top.within)) le)
          ∙ ap (λ (k : ℕ). bit_at w (63 - k)) there ∙ top.is_set;
    }

-- the same of two places
abbrev pub NoPairBelow : List ℕ → ℕ → ℕ → ℕ → Type 0
NoPairBelow words a b n = (j : ℕ) → j < n → j ≤ a → j ≤ b → max (mark_bit words (a - j)) (mark_bit words (b - j)) ≡ 0

lower_pair : (words : List ℕ) (a b base v w j : ℕ) → IsWindowDown words (a - base) v → IsWindowDown words (b - base) w
    → base ≤ j → j < base + 64 → j ≤ a → j ≤ b
    → bit_at (bit_or v w) (63 - (j - base)) ≡ max (mark_bit words (a - j)) (mark_bit words (b - j))
lower_pair words a b base v w j at_a at_b from below le_a le_b =
    let i : ℕ = 63 - (j - base) in
    bit_at_or v w i
    ∙ ap (λ (n : ℕ). max n (bit_at w i)) (lower_mark words a base v j at_a from below le_a)
    ∙ ap (λ (n : ℕ). max (mark_bit words (a - j)) n) (lower_mark words b base w j at_b from below le_b)

pub first_pair_found : (words : List ℕ) (a b base v w : ℕ) → NoPairBelow words a b base
    → IsWindowDown words (a - base) v → IsWindowDown words (b - base) w → 0 < bit_or v w
    → bit_or v w < 2 ^ 64 → IsFirstPair words a b (base + leading_zeros w64 (bit_or v w))
first_pair_found words a b base v w none at_a at_b some fits =
    let both : ℕ = bit_or v w in
    let top : IsTop both (leading_zeros w64 both) = top_bit both some fits in
    let n : ℕ = base + leading_zeros w64 both in
    let there : n - base ≡ leading_zeros w64 both = omega arith in
    record {
      none_before = λ j h le_a le_b. elim (cases_lt j base) [
        | inl before ↦ none j before le_a le_b
        | inr from ↦ sym (lower_pair words a b base v w j at_a at_b from (omega (arith, h, top.within)) le_a le_b)
            ∙ top.none_above (j - base) (omega (arith, h, from))
      ];
      mark_there = λ le_a le_b. sym (lower_pair words a b base v w n at_a at_b (omega arith)
          (omega (arith, top.within)) le_a le_b) ∙ ap (λ (k : ℕ). bit_at both (63 - k)) there ∙ top.is_set;
    }

-- the nearer of the first marks of two places is the first of both
pub nearer_mark : (words : List ℕ) (a b m n : ℕ) → IsFirstMark words a m → IsFirstMark words b n
    → IsFirstPair words a b (min m n)
nearer_mark words a b m n at_a at_b =
    record {
      none_before = λ j h le_a le_b. omega (
        arith,
        at_a.none_before j (omega (arith, h)) le_a,
        at_b.none_before j (omega (arith, h)) le_b,
      );
      mark_there = λ le_a le_b. elim (cases_lt n m) [
        | inl less ↦
            let here : min m n ≡ n = omega (arith, less) in
            rw here (omega (
              arith,
              at_b.mark_there (omega (arith, le_b, here)),
              bit_at-lt (slice_index_or words ((a - n) / 64 + 1) 0) ((a - n) % 64),
            ))
        | inr more ↦
            let here : min m n ≡ m = omega (arith, more) in
            rw here (omega (
              arith,
              at_a.mark_there (omega (arith, le_a, here)),
              bit_at-lt (slice_index_or words ((b - m) / 64 + 1) 0) ((b - m) % 64),
            ))
      ];
    }

-- what a shift of two words down leaves is a window up
pub window_up_marks : (words : List ℕ) (at both : ℕ) → both ≡ slice_index_or words
    (at / 64 + 2) 0 * 2 ^ 64 + slice_index_or words (at / 64 + 1) 0
    → slice_index_or words (at / 64 + 1) 0 < 2 ^ 64 → IsWindowUp words at (bit_and (both / 2 ^ (at % 64)) (2 ^ 64 - 1))
window_up_marks words at both e fits j within =
    let high : ℕ = slice_index_or words (at / 64 + 2) 0 in
    let low : ℕ = slice_index_or words (at / 64 + 1) 0 in
    let i : ℕ = at % 64 + j in
    ap (λ (n : ℕ). bit_at n j) (and_mask (both / 2 ^ (at % 64)) 64)
    ∙ bit_mod (both / 2 ^ (at % 64)) 64 j within
    ∙ bit_shr both (at % 64) j
    ∙ ap (λ (n : ℕ). bit_at n i) e
    ∙ (elim (cases_lt i 64) [
      | inl below ↦ bit_at_cat_low high 64 low i below ∙ same_bit words (at / 64 + 1) i (at + j) (omega (arith, below))
          (omega (arith, below))
      | inr above ↦ bit_at_cat_high high 64 low i fits above ∙ same_bit words (at / 64 + 2) (i - 64) (at + j)
          (omega (arith, above, within)) (omega (arith, above, within))
    ])

-- a number that isn't above zero
zero_is : (n : ℕ) → n ≤ 0 → n ≡ 0
zero_is n h = omega arith

-- the next mark is the lowest bit above the place's own, or the one that stands for this most
pub next_found : (words : List ℕ) (at most w : ℕ) → IsWindowUp words at w → w < 2 ^ 64 → 0 < most → most ≤ 64
    → IsNextMark words at most (trailing_zeros w64 (bit_or (w / 2 ^ 1) (1 * 2 ^ (most - 1) % 2 ^ 64)) + 1)
next_found words at most w window fits some near =
    let stop : ℕ = most - 1 in
    let v : ℕ = bit_or (w / 2 ^ 1) (1 * 2 ^ stop % 2 ^ 64) in
    let within : stop < 64 = omega arith in
    let last : bit_at v stop ≡ 1 = bit_at_set_same w64 (w / 2 ^ 1) stop within in
    let not_zero : 0 < v = elim (cases_lt 0 v) [
      | inl h ↦ h
      | inr none ↦ absurd (omega (arith, sym last ∙ ap (λ (n : ℕ). bit_at n stop) (zero_is v none) ∙ bit_at-zero stop))
    ] in
    let in_word : v < 2 ^ 64 = or_lt 64 (w / 2 ^ 1) (1 * 2 ^ stop % 2 ^ 64) (omega arith) (omega arith) in
    let lowest = bit_at-trailing_zeros w64 v not_zero in_word in
    let t : ℕ = trailing_zeros w64 v in
    let ahead : t < most = elim (cases_lt t most) [
      | inl h ↦ h
      | inr over ↦ absurd (omega (arith, sym last ∙ lowest.2 stop (omega (arith, over, some))))
    ] in
    let mark : (j : ℕ) → j < 64 → j ≢ stop → j + 1 < 64 → bit_at v j ≡ mark_bit words (at + (j + 1)) =
    λ j h other more. bit_at_set_other w64 (w / 2 ^ 1) stop within j other ∙ bit_shr w 1 j
    ∙ ap (λ (n : ℕ). bit_at w n) (omega arith) ∙ window (j + 1) more in
    record {
      some = omega arith;
      near = omega (arith, ahead);
      none_before = λ j above below.
          ap (λ (n : ℕ). mark_bit words (at + n)) (omega (arith, above))
          ∙ sym (mark (j - 1) (omega (arith, below, ahead, near)) (λ e. absurd (omega (arith, e, above, below, ahead)))
          (omega (arith, below, ahead, near)))
          ∙ lowest.2 (j - 1) (omega (arith, above, below));
      mark_there = λ h. sym (mark t (omega (arith, h, near)) (λ e. absurd (omega (arith, e, h)))
          (omega (arith, h, near))) ∙ lowest.1;
    }

-- the mask of the bits from low to high
mask_bit : (low high i : ℕ) → low ≤ 63 → high ≤ 63
    → bit_at (bit_and ((2 ^ 64 - 1) * 2 ^ low % 2 ^ 64) ((2 ^ 64 - 1) / 2 ^ (63 - high))) i
    ≡ min (bit_at (2 ^ 64 - 2 ^ low) i) (bit_at (2 ^ (high + 1) - 1) i)
mask_bit low high i in_low in_high =
    let count : 64 - (63 - high) ≡ high + 1 = omega arith in
    bit_at_and ((2 ^ 64 - 1) * 2 ^ low % 2 ^ 64) ((2 ^ 64 - 1) / 2 ^ (63 - high)) i
    ∙ ap (λ (n : ℕ). min (bit_at n i) (bit_at ((2 ^ 64 - 1) / 2 ^ (63 - high)) i)) (ones_shl 64 low (omega arith))
    ∙ ap (λ (n : ℕ). min (bit_at (2 ^ 64 - 2 ^ low) i) (bit_at n i)) (ones_shr 64 (63 - high) (omega arith))
    ∙ ap (λ (n : ℕ). min (bit_at (2 ^ 64 - 2 ^ low) i) (bit_at (2 ^ n - 1) i)) count

-- the bits under a mask are cleared, and the others stay
pub cleared_bits : (word low high : ℕ) → low ≤ high → high < 64
    → IsCleared word low high (bit_and word (bit_not w64 (bit_and ((2 ^ 64 - 1) * 2 ^ low % 2 ^ 64)
    ((2 ^ 64 - 1) / 2 ^ (63 - high)))))
cleared_bits word low high order range =
    let shifted : ℕ = (2 ^ 64 - 1) * 2 ^ low % 2 ^ 64 in
    let mask : ℕ = bit_and shifted ((2 ^ 64 - 1) / 2 ^ (63 - high)) in
    let small : mask < 2 ^ 64 = omega (arith, and_le_l shifted ((2 ^ 64 - 1) / 2 ^ (63 - high))) in
    let bit : (i : ℕ) → i < 64 → bit_at (bit_and word (bit_not w64 mask)) i
    ≡ min (bit_at word i) (1 - min (bit_at (2 ^ 64 - 2 ^ low) i) (bit_at (2 ^ (high + 1) - 1) i)) =
    λ i within. bit_at_and word (bit_not w64 mask) i
    ∙ ap (λ (n : ℕ). min (bit_at word i) n) (bit_at_not w64 mask i small within
    ∙ ap (λ (n : ℕ). 1 - n) (mask_bit low high i (omega arith) (omega arith))) in
    record {
      inside = λ i le ge. omega (
        arith,
        bit i (omega (arith, ge, range)),
        bit_at_mask_inside low 64 i le (omega (arith, ge, range)),
        bit_at_ones (high + 1) i (omega (arith, ge)),
      );
      below = λ i lt. omega (
        arith,
        bit i (omega (arith, lt, order, range)),
        bit_at_mask_below low 64 i lt,
        bit_at-lt word i,
      );
      above = λ i gt within. omega (
        arith,
        bit i within,
        bit_at_ones_above (high + 1) i (omega (arith, gt)),
        bit_at-lt word i,
      );
    }
