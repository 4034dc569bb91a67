-- Marks cleared by words: in one, or in two and those between them.
use Rattle.std.proofs.Common.{◌≡◌, ℕ, ◌+◌, ◌/◌, ◌%◌, ◌<◌, ◌≤◌, List, length, set, slice_index_or}
use Rattle.std.proofs.Common.{inl, inr, ap, sym, ◌∙◌, arith}
use Rattle.std.specs.Int.{bit_at}
use Rattle.std.proofs.lemmas.Bool.{cases_eq}
use Rattle.std.proofs.lemmas.Grind.{get_or-set_at}
use Rattle.std.proofs.lemmas.List.{get_or-set_other, length-set}
use Rattle.std.proofs.lemmas.Nat.Bits.{bit_at-zero}
use Rattle.core_1401.specs.MarkWords.{mark_bit, IsCleared, AreCleared}

-- the bits of the word that is put, and those of the others
bit_put : (words : List ℕ) (k word at : ℕ) → k < length words → at / 64 + 1 ≡ k
    → mark_bit (set words k word) at ≡ bit_at word (at % 64)
bit_put words k word at in_words here =
    ap (λ (w : ℕ). bit_at w (at % 64)) (get_or-set_at words k (at / 64 + 1) word 0 here in_words)

bit_beside : (words : List ℕ) (k word at : ℕ) → (at / 64 + 1 ≡ k → ⊥)
    → mark_bit (set words k word) at ≡ mark_bit words at
bit_beside words k word at other =
    ap (λ (w : ℕ). bit_at w (at % 64)) (get_or-set_other words k (at / 64 + 1) word 0 other)

-- a word whose bits from one to another are cleared is put in its place
pub cleared_word : (words : List ℕ) (low high word : ℕ) → low ≤ high → low / 64 ≡ high / 64
    → high / 64 + 1 < length words
    → IsCleared (slice_index_or words (low / 64 + 1) 0) (low % 64) (high % 64) word
    → AreCleared words low high (set words (low / 64 + 1) word)
cleared_word words low high word order same within cleared =
    let k : ℕ = low / 64 + 1 in
    let in_words : k < length words = omega (arith, same, within) in
    let there : (at : ℕ) → at / 64 + 1 ≡ k → bit_at (slice_index_or words k 0) (at % 64) ≡ mark_bit words at =
    λ at here. ap (λ (p : ℕ). bit_at (slice_index_or words p 0) (at % 64)) (sym here) in
    record {
      count = length-set words k word;
      inside = λ at from to. bit_put words k word at in_words (omega (arith, from, to, same))
          ∙ cleared.inside (at % 64) (omega (arith, from, to, same)) (omega (arith, from, to, same));
      below = λ at under. elim (cases_eq (at / 64 + 1) k) [
        | inl here ↦ bit_put words k word at in_words here ∙ cleared.below (at % 64) (omega (arith, here, under))
            ∙ there at here
        | inr other ↦ bit_beside words k word at other
      ];
      above = λ at over. elim (cases_eq (at / 64 + 1) k) [
        | inl here ↦ bit_put words k word at in_words here
            ∙ cleared.above (at % 64) (omega (arith, here, over, same)) (omega arith) ∙ there at here
        | inr other ↦ bit_beside words k word at other
      ];
    }

-- the words between two are cleared, and the others are as they were
pub record AreZeroed (words : List ℕ) (from to : ℕ) (result : List ℕ) : Type 0 where
  pub count : length result ≡ length words
  pub inside : (i : ℕ) → from ≤ i → i < to → slice_index_or result i 0 ≡ 0
  pub below : (i : ℕ) → i < from → slice_index_or result i 0 ≡ slice_index_or words i 0
  pub above : (i : ℕ) → to ≤ i → slice_index_or result i 0 ≡ slice_index_or words i 0

-- two words whose bits to and from the ends are cleared are put in their places, and those between them are cleared
pub cleared_words : (words middle : List ℕ) (low high one two : ℕ) → low / 64 < high / 64 → high / 64 + 1 < length words
    → IsCleared (slice_index_or words (low / 64 + 1) 0) (low % 64) 63 one
    → AreZeroed (set words (low / 64 + 1) one) (low / 64 + 2) (high / 64 + 1) middle
    → IsCleared (slice_index_or middle (high / 64 + 1) 0) 0 (high % 64) two
    → AreCleared words low high (set middle (high / 64 + 1) two)
cleared_words words middle low high one two apart within first zeroed last =
    let j : ℕ = low / 64 + 1 in
    let k : ℕ = high / 64 + 1 in
    let begun : List ℕ = set words j one in
    let j_in : j < length words = omega (arith, apart, within) in
    let k_in : k < length middle = omega (arith, zeroed.count, length-set words j one, within) in
    let old : (at : ℕ) → (at / 64 + 1 ≡ j → ⊥) → slice_index_or begun (at / 64 + 1) 0
    ≡ slice_index_or words (at / 64 + 1) 0 =
    λ at other. get_or-set_other words j (at / 64 + 1) one 0 other in
    let bit : (a b i : ℕ) → a ≡ b → bit_at a i ≡ bit_at b i = λ a b i e. ap (λ (w : ℕ). bit_at w i) e in
    record {
      count = length-set middle k two ∙ zeroed.count ∙ length-set words j one;
      inside = λ at from to. elim (cases_eq (at / 64 + 1) k) [
        | inl here ↦ bit_put middle k two at k_in here ∙ last.inside (at % 64) (omega arith) (omega (arith, here, to))
        | inr other ↦ bit_beside middle k two at other ∙ (elim (cases_eq (at / 64 + 1) j) [
          | inl start ↦ bit _ _ (at % 64) (zeroed.below (at / 64 + 1) (omega (arith, start)))
              ∙ bit_put words j one at j_in start ∙ first.inside (at % 64) (omega (arith, start, from)) (omega arith)
          | inr between ↦ bit _ _ (at % 64) (zeroed.inside (at / 64 + 1) (omega (arith, between, from))
              (omega (arith, other, to))) ∙ bit_at-zero (at % 64)
        ])
      ];
      below = λ at under.
          let other : at / 64 + 1 ≡ k → ⊥ = λ e. absurd (omega (arith, e, under, apart)) in
          bit_beside middle k two at other
          ∙ bit _ _ (at % 64) (zeroed.below (at / 64 + 1) (omega (arith, under)))
          ∙ (elim (cases_eq (at / 64 + 1) j) [
            | inl start ↦ bit_put words j one at j_in start
                ∙ first.below (at % 64) (omega (arith, start, under))
                ∙ ap (λ (p : ℕ). bit_at (slice_index_or words p 0) (at % 64)) (sym start)
            | inr before ↦ bit_beside words j one at before
          ]);
      above = λ at over.
          let late : at / 64 + 1 ≡ j → ⊥ = λ e. absurd (omega (arith, e, over, apart)) in
          elim (cases_eq (at / 64 + 1) k) [
            | inl here ↦ bit_put middle k two at k_in here
                ∙ last.above (at % 64) (omega (arith, here, over)) (omega arith)
                ∙ ap (λ (p : ℕ). bit_at (slice_index_or middle p 0) (at % 64)) (sym here)
                ∙ bit _ _ (at % 64) (zeroed.above (at / 64 + 1) (omega (arith, here)) ∙ old at late)
            | inr other ↦ bit_beside middle k two at other
                ∙ bit _ _ (at % 64) (zeroed.above (at / 64 + 1) (omega (arith, other, over)) ∙ old at late)
          ];
    }
