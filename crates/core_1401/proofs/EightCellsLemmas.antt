-- Eight cells in a row as two numbers.
use Rattle.std.proofs.Common.{◌≡◌, ℕ, ◌+◌, ◌≤◌, ◌<◌, List, length, arith, refl, ap, sym, ◌∙◌, subst, ◌==◌}
use Rattle.std.specs.Int.{bit_at, from_le_bytes, w64}
use Rattle.bcd_1401.specs.declared.cell.Cell.{Cell}
use Rattle.core_1401.specs.EightCells.{AreEightCells, AreEightCodes, AreCodes, codes_from, codes_at}
use Rattle.core_1401.specs.MarkWords.{held, held_cell, mark_bit}
use Rattle.core_1401.specs.Storage.{cell_at}
use Rattle.core_1401.proofs.HeldLemmas.{cell_at-held}

-- the codes in the list are those at the places
same_codes : (chars words : List ℕ) (at : ℕ) → at + 8 ≤ length chars
    → codes_from chars at ≡ codes_at (held chars words) at
same_codes chars words at inside =
    let is : (i : ℕ) → i < 8 → cell_at (held chars words) (at + i) ≡ held_cell chars words (at + i) =
    λ i lt. cell_at-held chars words (at + i) (omega arith) in
    let none : at + 0 ≡ at = omega arith in
    let first : cell_at (held chars words) (at + 0) ≡ held_cell chars words at =
    ap (cell_at (held chars words)) none ∙ cell_at-held chars words at (omega arith) in
    rw (
      first,
      is 1 (omega arith),
      is 2 (omega arith),
      is 3 (omega arith),
      is 4 (omega arith),
      is 5 (omega arith),
      is 6 (omega arith),
      is 7 (omega arith),
    ) refl

-- they and the marks make eight cells
pub are_eight_cells : (chars words : List ℕ) (at codes marks : ℕ) → at + 8 ≤ length chars
    → codes ≡ from_le_bytes w64 (codes_from chars at) → AreCodes chars at
    → ((i : ℕ) → i < 8 → bit_at marks i ≡ mark_bit words (at + i))
    → AreEightCells (held chars words) at codes marks
are_eight_cells chars words at codes marks inside number range bits =
    let is : (i : ℕ) → i < 8 → cell_at (held chars words) (at + i) ≡ held_cell chars words (at + i) =
    λ i lt. cell_at-held chars words (at + i) (omega arith) in
    record {
      are_bytes = number ∙ ap (from_le_bytes w64) (same_codes chars words at inside);
      are_codes = λ i lt. subst (λ (cell : Cell). cell.char < 64) (sym (is i lt)) (range i lt);
      are_bits = λ i lt. ap (λ (b : ℕ). b == 1) (bits i lt) ∙ ap (λ (cell : Cell). cell.mark) (sym (is i lt));
    }

-- the codes alone
pub are_eight_codes : (chars words : List ℕ) (at codes : ℕ) → at + 8 ≤ length chars
    → codes ≡ from_le_bytes w64 (codes_from chars at) → AreCodes chars at
    → AreEightCodes (held chars words) at codes
are_eight_codes chars words at codes inside number range =
    let is : (i : ℕ) → i < 8 → cell_at (held chars words) (at + i) ≡ held_cell chars words (at + i) =
    λ i lt. cell_at-held chars words (at + i) (omega arith) in
    record {
      are_bytes = number ∙ ap (from_le_bytes w64) (same_codes chars words at inside);
      are_codes = λ i lt. subst (λ (cell : Cell). cell.char < 64) (sym (is i lt)) (range i lt);
    }
