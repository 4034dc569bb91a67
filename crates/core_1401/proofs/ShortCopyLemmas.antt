-- Characters copied from one part of a list to the other.
use Rattle.std.proofs.Common.{◌≡◌, ℕ, ◌+◌, ◌-◌, ◌<◌, ◌≤◌, List, ◌++◌, length, slice_index_or, ap, sym, ◌∙◌, arith}
use Rattle.std.proofs.Common.{length-append}
use Rattle.std.proofs.lemmas.List.{get_or_append_left, get_or-append_right}

-- n characters are copied from a place of one list up to a place of another up, whose others stay
pub record AreCopiedUp (source target new : List ℕ) (from to n : ℕ) : Type 0 where
  pub count : length new ≡ length target
  pub copied : (i : ℕ) → i < n → slice_index_or new (to + i) 0 ≡ slice_index_or source (from + i) 0
  pub below : (i : ℕ) → i < to → slice_index_or new i 0 ≡ slice_index_or target i 0
  pub above : (i : ℕ) → to + n ≤ i → slice_index_or new i 0 ≡ slice_index_or target i 0

-- from the low part to the start of the high one
pub copied_to_high : (old low high new : List ℕ) (from to n : ℕ) → old ≡ low ++ high → length low ≡ to → from + n ≤ to
    → AreCopiedUp low high new from 0 n → AreCopiedUp old old (low ++ new) from to n
copied_to_high old low high new from to n e len within copy =
    let back : (i : ℕ) → slice_index_or (low ++ high) i 0 ≡ slice_index_or old i 0 =
    λ i. ap (λ (l : List ℕ). slice_index_or l i 0) (sym e) in
    record {
      count = length-append low new ∙ ap (λ (k : ℕ). length low + k) copy.count ∙ sym (length-append low high)
          ∙ ap length (sym e);
      copied = λ i lt. get_or-append_right low new to (to + i) 0 len (omega arith)
          ∙ ap (λ (p : ℕ). slice_index_or new p 0) (omega arith)
          ∙ copy.copied i lt
          ∙ sym (get_or_append_left low high 0 (from + i) (omega (arith, len, lt, within)))
          ∙ back (from + i);
      below = λ i lt. get_or_append_left low new 0 i (omega (arith, len, lt))
          ∙ sym (get_or_append_left low high 0 i (omega (arith, len, lt))) ∙ back i;
      above = λ i le. get_or-append_right low new to i 0 len (omega (arith, le))
          ∙ copy.above (i - to) (omega (arith, le)) ∙ sym (get_or-append_right low high to i 0 len (omega (arith, le)))
          ∙ back i;
    }

-- from the high part to the end of the low one
pub copied_to_low : (old low high new : List ℕ) (from to n : ℕ) → old ≡ low ++ high → length low ≡ to + n
    → to + n ≤ from → AreCopiedUp high low new (from - to - n) to n → AreCopiedUp old old (new ++ high) from to n
copied_to_low old low high new from to n e len within copy =
    let back : (i : ℕ) → slice_index_or (low ++ high) i 0 ≡ slice_index_or old i 0 =
    λ i. ap (λ (l : List ℕ). slice_index_or l i 0) (sym e) in
    let same : length new ≡ to + n = copy.count ∙ len in
    record {
      count = length-append new high ∙ ap (λ (k : ℕ). k + length high) copy.count ∙ sym (length-append low high)
          ∙ ap length (sym e);
      copied = λ i lt. get_or_append_left new high 0 (to + i) (omega (arith, same, lt))
          ∙ copy.copied i lt
          ∙ ap (λ (p : ℕ). slice_index_or high p 0) (omega (arith, within))
          ∙ sym (get_or-append_right low high (to + n) (from + i) 0 len (omega (arith, within)))
          ∙ back (from + i);
      below = λ i lt. get_or_append_left new high 0 i (omega (arith, same, lt)) ∙ copy.below i lt
          ∙ sym (get_or_append_left low high 0 i (omega (arith, len, lt))) ∙ back i;
      above = λ i le. get_or-append_right new high (to + n) i 0 same le
          ∙ sym (get_or-append_right low high (to + n) i 0 len le) ∙ back i;
    }
