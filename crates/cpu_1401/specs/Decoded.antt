-- What an instruction says by itself, whatever the registers hold (own).
use Rattle.std.specs.Prelude.{◌≡◌, ℕ, ◌+◌, ◌-◌, ◌<◌, ◌≤◌, true, false, Some, length}
use Rattle.bcd_1401.specs.Character.{zone_of}
use Rattle.core_1401.specs.Address.{value_at}
use Rattle.core_1401.specs.EightCells.{AreEightCells}
use Rattle.core_1401.specs.Storage.{Storage, cell_at}
use Rattle.cpu_1401.specs.declared.decoded.Address.{Address}
use Rattle.cpu_1401.specs.declared.decoded.Decoded.{Decoded}
use Rattle.cpu_1401.specs.Instruction.{instruction_of, length_at, longest_at}
use Rattle.machine_tables.specs.Operation.{operation_of, has_length, is_unfitted_length}
use Rattle.cpu_1401.specs.State.{State}
use Rattle.cpu_1401.specs.Step.{perform}

-- the three characters from a place on spell this address
pub record IsAddress (storage : Storage) (at : ℕ) (address : Address) : Type 0 where
  pub value : value_at storage at ≡ address.value
  pub register : zone_of (cell_at storage (at + 1)).char ≡ address.register

-- what is at a place is this instruction, and it has one of the lengths of its operation
pub record Says (storage : Storage) (at : ℕ) (this : Decoded) : Type 0 where
  pub mark : (cell_at storage at).mark ≡ true
  pub operation : operation_of (cell_at storage at).char ≡ Some this.operation
  pub near : longest_at storage this.operation at ≤ 8
  pub len : length_at storage this.operation at ≡ this.len
  pub is_fitted : is_unfitted_length this.operation this.len ≡ false
  pub is_length : has_length this.operation this.len ≡ true
  pub inside : at + this.len ≤ length storage
  pub d : (cell_at storage (at + this.len - 1)).char ≡ this.d
  pub a : 4 ≤ this.len → IsAddress storage (at + 1) this.a
  pub b : 7 ≤ this.len → IsAddress storage (at + 4) this.b
  pub only : 4 ≤ this.len → this.len < 7 → IsAddress storage (at + 1) this.b

-- eight cells are this instruction, wherever they are
abbrev pub AlwaysSay : ℕ → ℕ → Decoded → Type 0
AlwaysSay codes marks this =
    (storage : Storage) → (at : ℕ) → at + 8 ≤ length storage → AreEightCells storage at codes marks
    → Says storage at this

-- with these addresses its operation does what the instruction at the I register does
abbrev pub Serve : State → Decoded → ℕ → ℕ → Type 0
Serve s this a b =
    let own = instruction_of this.operation this.len s in
    perform this.operation (record own { a = a; b = b }) s ≡ perform this.operation own s
