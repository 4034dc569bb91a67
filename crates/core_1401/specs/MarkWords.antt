-- Word marks as bits, 64 to a word (own).
use Rattle.std.specs.Prelude.{◌≡◌, ◌≢◌, ℕ, ◌+◌, ◌-◌, ◌/◌, ◌%◌, ◌==◌, ◌<◌, ◌≤◌, Bool, true, max, List, length, map}
use Rattle.std.specs.Prelude.{slice_index_or}
use Rattle.std.specs.List.{range_with_len}
use Rattle.std.specs.Int.{bit_at}
use Rattle.bcd_1401.specs.declared.cell.Cell.{Cell}
use Rattle.core_1401.specs.Storage.{Storage, cell_at, is_core_size}

-- the bit of an address: address 0 has the lowest of the first word
abbrev pub bit_for : List ℕ → ℕ → ℕ
bit_for words at = bit_at (slice_index_or words (at / 64) 0) (at % 64)

-- these words are the word marks of a storage, and no bit at or above its size is set
pub record AreMarkWords (storage : Storage) (words : List ℕ) : Type 0 where
  pub count : length words ≡ (length storage + 63) / 64
  pub marks : (at : ℕ) → at < length storage → (bit_for words at == 1) ≡ (cell_at storage at).mark
  pub none_beyond : (at : ℕ) → length storage ≤ at → bit_for words at ≡ 0

-- the same bit if one word comes before that of address 0, so that 64 places below any address have bits
abbrev pub mark_bit : List ℕ → ℕ → ℕ
mark_bit words at = bit_at (slice_index_or words (at / 64 + 1) 0) (at % 64)

-- what is at a place, by the list of characters and the words
abbrev pub held_cell : List ℕ → List ℕ → ℕ → Cell
held_cell chars words at = record { char = slice_index_or chars at 0; mark = mark_bit words at == 1 }

-- the cells by address
unfoldable pub held : List ℕ → List ℕ → Storage
held chars words = map (held_cell chars words) (range_with_len 0 (length chars))

-- core storage has one of its sizes, and no bit at or above it is set
pub record IsWhole (chars words : List ℕ) : Type 0 where
  pub size : is_core_size (length chars) ≡ true
  pub none_beyond : (at : ℕ) → length chars ≤ at → mark_bit words at ≡ 0

-- a number whose highest bit is the mark of an address, and the ones below it those of the addresses below
abbrev pub IsWindowDown : List ℕ → ℕ → ℕ → Type 0
IsWindowDown words at window = (j : ℕ) → j < 64 → j ≤ at → bit_at window (63 - j) ≡ mark_bit words (at - j)

-- a number whose lowest bit is the mark of an address, and the ones above it those of the addresses above
abbrev pub IsWindowUp : List ℕ → ℕ → ℕ → Type 0
IsWindowUp words at window = (j : ℕ) → j < 64 → bit_at window j ≡ mark_bit words (at + j)

-- none of the marks of the n addresses from one down is set
abbrev pub NoneBelow : List ℕ → ℕ → ℕ → Type 0
NoneBelow words at n = (j : ℕ) → j < n → j ≤ at → mark_bit words (at - j) ≡ 0

-- the first mark from an address down is n below it, or there is none down to address 0 and n is beyond that
pub record IsFirstMark (words : List ℕ) (at n : ℕ) : Type 0 where
  pub none_before : (j : ℕ) → j < n → j ≤ at → mark_bit words (at - j) ≡ 0
  pub mark_there : n ≤ at → mark_bit words (at - n) ≡ 1

-- the same of two addresses and the first mark below either
pub record IsFirstPair (words : List ℕ) (a b n : ℕ) : Type 0 where
  pub none_before : (j : ℕ) → j < n → j ≤ a → j ≤ b → max (mark_bit words (a - j)) (mark_bit words (b - j)) ≡ 0
  pub mark_there : n ≤ a → n ≤ b → max (mark_bit words (a - n)) (mark_bit words (b - n)) ≡ 1

-- the next mark above an address is n above it, or there is none so near and n is this most
pub record IsNextMark (words : List ℕ) (at most n : ℕ) : Type 0 where
  pub some : 0 < n
  pub near : n ≤ most
  pub none_before : (j : ℕ) → 0 < j → j < n → mark_bit words (at + j) ≡ 0
  pub mark_there : n < most → mark_bit words (at + n) ≡ 1

-- a word with one bit set or cleared, and the others as they were
pub record IsWithBit (word bit : ℕ) (mark : Bool) (result : ℕ) : Type 0 where
  pub there : (bit_at result bit == 1) ≡ mark
  pub others : (i : ℕ) → i < 64 → i ≢ bit → bit_at result i ≡ bit_at word i

-- a word whose bits from low to high are cleared, and the others as they were
pub record IsCleared (word low high result : ℕ) : Type 0 where
  pub inside : (i : ℕ) → low ≤ i → i ≤ high → bit_at result i ≡ 0
  pub below : (i : ℕ) → i < low → bit_at result i ≡ bit_at word i
  pub above : (i : ℕ) → high < i → i < 64 → bit_at result i ≡ bit_at word i

-- words in which the marks of the addresses from low to high are cleared, and the others are as they were
pub record AreCleared (words : List ℕ) (low high : ℕ) (result : List ℕ) : Type 0 where
  pub count : length result ≡ length words
  pub inside : (at : ℕ) → low ≤ at → at ≤ high → mark_bit result at ≡ 0
  pub below : (at : ℕ) → at < low → mark_bit result at ≡ mark_bit words at
  pub above : (at : ℕ) → high < at → mark_bit result at ≡ mark_bit words at
