-- Eight cells in a row as two numbers (own).
use Rattle.std.specs.Prelude.{◌≡◌, ℕ, ◌+◌, ◌==◌, ◌<◌, List, [], ◌∷◌, map, slice_index_or}
use Rattle.std.specs.List.{range_with_len}
use Rattle.std.specs.Int.{bit_at, from_le_bytes, w64}
use Rattle.core_1401.specs.Storage.{Storage, cell_at}

-- eight codes of a list, from one up
abbrev pub codes_from : List ℕ → ℕ → List ℕ
codes_from chars at =
    slice_index_or chars at 0 ∷ slice_index_or chars (at + 1) 0 ∷ slice_index_or chars (at + 2) 0
    ∷ slice_index_or chars (at + 3) 0 ∷ slice_index_or chars (at + 4) 0 ∷ slice_index_or chars (at + 5) 0
    ∷ slice_index_or chars (at + 6) 0 ∷ slice_index_or chars (at + 7) 0 ∷ []

-- which are those of characters
abbrev pub AreCodes : List ℕ → ℕ → Type 0
AreCodes chars at = (i : ℕ) → i < 8 → slice_index_or chars (at + i) 0 < 64

-- the codes at eight places from one up
abbrev pub codes_at : Storage → ℕ → List ℕ
codes_at storage at = map (λ i. (cell_at storage (at + i)).char) (range_with_len 0 8)

-- A number has the codes at eight places as its bytes, with the first as the lowest, and another their word marks as
-- its bits.
pub record AreEightCells (storage : Storage) (at codes marks : ℕ) : Type 0 where
  pub are_bytes : codes ≡ from_le_bytes w64 (codes_at storage at)
  pub are_codes : (i : ℕ) → i < 8 → (cell_at storage (at + i)).char < 64
  pub are_bits : (i : ℕ) → i < 8 → (bit_at marks i == 1) ≡ (cell_at storage (at + i)).mark

-- A number has the codes at eight places as its bytes, with the first as the lowest.
pub record AreEightCodes (storage : Storage) (at codes : ℕ) : Type 0 where
  pub are_bytes : codes ≡ from_le_bytes w64 (codes_at storage at)
  pub are_codes : (i : ℕ) → i < 8 → (cell_at storage (at + i)).char < 64
