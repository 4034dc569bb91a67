-- Blocks of 64 places that are equal.
use Rattle.std.proofs.Common.{◌≡◌, ℕ, ◌+◌, ◌<◌, ◌≤◌, ◌==◌, false, List, length}
use Rattle.std.proofs.Common.{slice_index_or, sym, ◌∙◌, ap, arith, inl, inr}
use Rattle.std.proofs.lemmas.Bool.{cases_lt}
use Rattle.std.proofs.lemmas.List.{get_or-map}
use Rattle.bcd_1401.specs.declared.cell.Cell.{Cell}
use Rattle.core_1401.specs.MarkWords.{AreMarkWords, bit_for}
use Rattle.core_1401.specs.Places.{chars_of}
use Rattle.core_1401.specs.Storage.{Storage, blank, cell_at}
use Rattle.job_steps.specs.Changes.{is_changed}
use Rattle.job_steps.proofs.PlaceLemmas.{same_cell, unchanged}

-- 64 places more that are equal
pub block_more : (s t : Storage) (words others : List ℕ) (from at : ℕ) → length s ≡ length t → at + 64 ≤ length t
    → AreMarkWords s words → AreMarkWords t others
    → ((i : ℕ) → at ≤ i → i < at + 64 → slice_index_or (chars_of s) i 0 ≡ slice_index_or (chars_of t) i 0)
    → ((i : ℕ) → at ≤ i → i < at + 64 → bit_for words i ≡ bit_for others i)
    → ((i : ℕ) → from ≤ i → i < at → is_changed (cell_at s i) (cell_at t i) ≡ false)
    → (i : ℕ) → from ≤ i → i < at + 64 → is_changed (cell_at s i) (cell_at t i) ≡ false
block_more s t words others from at size within of_s of_t chars marks before i least most = elim (cases_lt i at) [
  | inl lt ↦ before i least lt
  | inr past ↦
      let char : Cell → ℕ = λ cell. cell.char in
      let in_t : i < length t = omega (arith, within, most) in
      let in_s : i < length s = omega (arith, in_t, size) in
      unchanged (cell_at s i) (cell_at t i)
      (same_cell (cell_at s i) (cell_at t i)
      (sym (get_or-map char s i blank 0 in_s) ∙ chars i past most ∙ get_or-map char t i blank 0 in_t)
      (sym (of_s.marks i in_s) ∙ ap (λ (b : ℕ). b == 1) (marks i past most) ∙ of_t.marks i in_t))
]
