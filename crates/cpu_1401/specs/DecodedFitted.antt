-- What an instruction that a feature claims says by itself, whatever the registers hold (own).
use Rattle.std.specs.Prelude.{◌≡◌, ℕ, ◌+◌, ◌-◌, ◌<◌, ◌≤◌, true, Some, List, length, slice_index}
use Rattle.std.specs.List.{All}
use Rattle.bcd_1401.specs.Graphic.{graphics}
use Rattle.core_1401.specs.EightCells.{AreEightCells}
use Rattle.core_1401.specs.Storage.{Storage, cell_at}
use Rattle.cpu_1401.specs.declared.decoded_fitted.DecodedFitted.{DecodedFitted}
use Rattle.cpu_1401.specs.declared.fitted_entry.FittedEntry.{FittedEntry}
use Rattle.cpu_1401.specs.Decoded.{IsAddress}
use Rattle.cpu_1401.specs.Fetched.{cells_at, longest_of}
use Rattle.machine_tables.specs.Fitted.{fitted_in}
use Rattle.machine_tables.specs.Operation.{operation_of}
use Rattle.machine_tables.specs.declared.features.Features.{Features}

-- how many instructions of features are cached at most
abbrev pub fitted_entry_count : ℕ
fitted_entry_count = 256

-- what is at a place is this instruction, and one of these features claims it
pub record SaysFitted (storage : Storage) (at : ℕ) (features : Features) (this : DecodedFitted) : Type 0 where
  pub mark : (cell_at storage at).mark ≡ true
  pub near : longest_of (operation_of (cell_at storage at).char) (cell_at storage (at + 4)).char ≤ 8
  pub len : cells_at storage at ≡ this.len
  pub inside : at + this.len ≤ length storage
  pub fitted : fitted_in features (slice_index graphics (cell_at storage at).char) this.len ≡ Some this.fitted
  pub d : (cell_at storage (at + this.len - 1)).char ≡ this.d
  pub a : 4 ≤ this.len → IsAddress storage (at + 1) this.a
  pub b : 7 ≤ this.len → IsAddress storage (at + 4) this.b
  pub only : 4 ≤ this.len → this.len < 7 → IsAddress storage (at + 1) this.b

-- eight cells are this instruction, wherever they are
abbrev pub AlwaysSayFitted : ℕ → ℕ → Features → DecodedFitted → Type 0
AlwaysSayFitted codes marks features this =
    (storage : Storage) → (at : ℕ) → at + 8 ≤ length storage → AreEightCells storage at codes marks
    → SaysFitted storage at features this

-- so are those of an entry
abbrev pub IsSaying : Features → FittedEntry → Type 0
IsSaying features entry = AlwaysSayFitted entry.codes entry.marks features entry.decoded

-- and those of each
abbrev pub AreSaying : Features → List FittedEntry → Type 0
AreSaying features entries = All (IsSaying features) entries
