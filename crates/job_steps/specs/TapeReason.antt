-- Why the next step stops a machine with tape units (own).
use Rattle.std.specs.Prelude.{◌≡◌, ◌<◌, ℕ, false, List, [], Option, Some, None, drop, length, slice_get, take}
use Rattle.std.specs.Prelude.{unwrap_or}
use Rattle.machine_tapes.specs.Reel.{room_in}
use Rattle.cpu_1401.specs.State.{State}
use Rattle.machine_tapes.specs.Instruction.{tape_instruction}
use Rattle.machine_tapes.specs.TapeText.{cells_read, text_of}
use Rattle.machine_tapes.specs.Tapes.{unit_of}
use Rattle.machine_tapes.specs.Transfer.{read_to, record_len_at}
use Rattle.machine_tapes.specs.declared.drive.Drive.{Drive}
use Rattle.machine_tapes.specs.declared.taped_machine.TapedMachine.{TapedMachine}
use Rattle.machine_tapes.specs.declared.work.TapeInstruction.{TapeInstruction}
use Rattle.machine_tapes.specs.declared.work.TapeWork.{TapeWork}
use Rattle.machine_tapes.specs.declared.work.TapeWork.TheVariants as work
use Rattle.job_steps.specs.Reason.{IsSo}
use Rattle.job_steps.specs.declared.reason.Reason.{Reason}
use Rattle.job_steps.specs.declared.reason.Reason.TheVariants as reason

-- how many characters an instruction writes on its reel
abbrev pub written_len : TapeWork → TapeInstruction → State → ℕ
written_len (work.Read how) this s = 0
written_len (work.Write how) this s =
    length (text_of how this.unit.is_odd (take (unwrap_or (record_len_at s.storage this.b) 0) (drop this.b s.storage)))
written_len work.Backspace this s = 0
written_len work.Erase this s = 0
written_len work.WriteMark this s = 1
written_len work.Rewind this s = 0
written_len work.Unload this s = 0

-- the next record doesn't fit in core
abbrev pub IsBeyondCore : TapeWork → TapeInstruction → State → Option (List ℕ) → Type 0
IsBeyondCore (work.Read how) this s (Some chars) =
    read_to how s.storage this.b (cells_read how this.unit.is_odd chars) ≡ None
IsBeyondCore (work.Read how) this s None = ⊥
IsBeyondCore (work.Write how) this s next = ⊥
IsBeyondCore work.Backspace this s next = ⊥
IsBeyondCore work.Erase this s next = ⊥
IsBeyondCore work.WriteMark this s next = ⊥
IsBeyondCore work.Rewind this s next = ⊥
IsBeyondCore work.Unload this s next = ⊥

-- what a reason says of a tape instruction and its unit is so
abbrev pub IsTapeSo : TapeInstruction → State → Drive → Reason → Type 0
IsTapeSo this s drive reason.Halt = ⊥
IsTapeSo this s drive reason.NoCard = ⊥
IsTapeSo this s drive reason.PaperFull = ⊥
IsTapeSo this s drive reason.StackerFull = ⊥
IsTapeSo this s drive (reason.NoPlace at) = ⊥
IsTapeSo this s drive (reason.NoMark at) = ⊥
IsTapeSo this s drive (reason.NoOperation char) = ⊥
IsTapeSo this s drive (reason.NotFitted char) = ⊥
IsTapeSo this s drive (reason.NotFittedAt char len) = ⊥
IsTapeSo this s drive (reason.NoSuchLength char len) = ⊥
IsTapeSo this s drive (reason.Fields why) = ⊥
IsTapeSo this s drive (reason.NoHole channel) = ⊥
IsTapeSo this s drive (reason.UnknownD char d) = ⊥
IsTapeSo this s drive reason.NoUnit = ⊥
IsTapeSo this s drive (reason.NoReel unit) =
    (unit ≡ this.unit.number) × (drive.is_ready ≡ false) × (drive.reel.capacity ≡ 0)
IsTapeSo this s drive (reason.Unloaded unit) =
    (unit ≡ this.unit.number) × (drive.is_ready ≡ false) × (0 < drive.reel.capacity)
IsTapeSo this s drive (reason.NoRing unit) = (unit ≡ this.unit.number) × (drive.has_ring ≡ false)
IsTapeSo this s drive (reason.NoRecord unit after) =
    (unit ≡ this.unit.number) × (after ≡ length drive.reel.passed) × (drive.reel.ahead ≡ [])
IsTapeSo this s drive (reason.NoRoom unit after) =
    (unit ≡ this.unit.number) × (after ≡ length drive.reel.passed)
    × (room_in drive.reel < written_len this.work this s)
IsTapeSo this s drive (reason.NoGroupMark at) = (at ≡ this.b) × (record_len_at s.storage at ≡ None)
IsTapeSo this s drive (reason.EmptyRecord at) = (at ≡ this.b) × (record_len_at s.storage at ≡ Some 0)
IsTapeSo this s drive (reason.BeyondCore at) =
    (at ≡ this.b) × IsBeyondCore this.work this s (slice_get drive.reel.ahead 0)

-- what a reason says of the instruction at the I register is so: of one for a tape unit, or of another
abbrev pub IsTapedSoOf : Option TapeInstruction → TapedMachine → Reason → Type 0
IsTapedSoOf None t why = IsSo t.machine why
IsTapedSoOf (Some this) t why = IsTapeSo this t.machine (unit_of t.tapes this.unit.number) why

-- what a reason says of a machine with its tape units is so
abbrev pub IsTapedSo : TapedMachine → Reason → Type 0
IsTapedSo t why = IsTapedSoOf (tape_instruction t.machine) t why
