-- Decoded instructions that are cached, and the word marks of core storage (own).
use Rattle.std.specs.Prelude.{◌≡◌, ◌≢◌, ◌⊎◌, ℕ, ◌+◌, ◌-◌, ◌^◌, ◌%◌, ◌==◌, ◌<◌, ◌≤◌, Bool, true, false, List, length}
use Rattle.std.specs.Prelude.{slice_index_or, if◌then◌else◌, nat_lt}
use Rattle.std.specs.Int.{bit_at}
use Rattle.core_1401.specs.Address.{addresses}
use Rattle.core_1401.specs.PlaceSet.{has_place}
use Rattle.cpu_1401.specs.declared.cache_entry.CacheEntry.{CacheEntry}
use Rattle.cpu_1401.specs.NeededPlaces.{HasPlaces}

-- how many instructions are cached at most
abbrev pub entry_count : ℕ
entry_count = 1024

-- the place of an entry that keeps nothing: no address has it
abbrev pub no_place : ℕ
no_place = 2 ^ 16 - 1

-- what is cached of a core of some size
pub record CacheView : Type 0 where
  pub entries : List CacheEntry
  pub size : ℕ

-- An entry keeps the instruction at a place: it is the one that the place shares with all that have the same remainder.
pub record IsCached (entries : List CacheEntry) (at : ℕ) (entry : CacheEntry) : Type 0 where
  pub some : at < addresses
  pub inside : at % entry_count < length entries
  pub is : slice_index_or entries (at % entry_count) entry ≡ entry
  pub there : entry.at ≡ at

-- eight word marks from a place up are the bits of a number, the first the lowest
abbrev pub AreMarks : List Bool → ℕ → ℕ → Type 0
AreMarks marks at number = (i : ℕ) → i < 8 → (bit_at number i == 1) ≡ slice_index_or marks (at + i) false

-- each cached instruction has the word marks that are there
abbrev pub IsCurrent : List CacheEntry → List Bool → Type 0
IsCurrent entries marks =
    (at : ℕ) → (entry : CacheEntry) → IsCached entries at entry → AreMarks marks at entry.marks

-- the cells of an instruction cached at a place are in core, and a place after them; and if its addresses are
-- ready, so are the places that it needs
abbrev pub IsInside : CacheEntry → ℕ → ℕ → Type 0
IsInside entry at size =
    (at + 8 < size)
    × (entry.ready_at ≢ no_place → HasPlaces entry.decoded.operation entry.decoded.a.value entry.decoded.b.value size)

-- so it is of each cached instruction
abbrev pub AreInside : List CacheEntry → ℕ → Type 0
AreInside entries size = (at : ℕ) → (entry : CacheEntry) → IsCached entries at entry → IsInside entry at size

-- the cells of each cached instruction are from one place to another
abbrev pub AreBetween : List CacheEntry → ℕ → ℕ → Type 0
AreBetween entries first last =
    (at : ℕ) → (entry : CacheEntry) → IsCached entries at entry → (first ≤ at) × (at + 7 ≤ last)

-- the cells of each cached instruction are covered
abbrev pub AreCovered : List CacheEntry → List ℕ → Type 0
AreCovered entries covered =
    (at : ℕ) → (entry : CacheEntry) → IsCached entries at entry → (i : ℕ) → i < 8 → has_place covered (at + i) ≡ true

-- what is cached was cached before
abbrev pub IsPart : List CacheEntry → List CacheEntry → Type 0
IsPart old new = (at : ℕ) → (entry : CacheEntry) → IsCached new at entry → IsCached old at entry

-- no cached instruction has one of the places from low to high among its eight cells
abbrev pub IsApart : List CacheEntry → ℕ → ℕ → Type 0
IsApart entries low high =
    (at : ℕ) → (entry : CacheEntry) → IsCached entries at entry → (at + 7 < low) ⊎ (high < at)

-- the lowest place that an operation wrote whose register is then this address: 0, if that isn't below the units
abbrev pub lowest_written : ℕ → ℕ → ℕ
lowest_written units below = if nat_lt below units then below + 1 else 0
