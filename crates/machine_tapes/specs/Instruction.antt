-- The tape instruction at the I register (A24-1403, "Magnetic Tape", from memory).
use Rattle.std.specs.Prelude.{ℕ, ◌+◌, List, [], ◌∷◌, Option, None, Some, codes, slice_index}
use Rattle.bcd_1401.specs.Graphic.{graphics}
use Rattle.machine_tables.specs.Rows.{meaning_in, row}
use Rattle.machine_tables.specs.declared.fitted.Fitted.{Fitted}
use Rattle.machine_tables.specs.declared.fitted.Fitted.TheVariants as fitted
use Rattle.cpu_1401.specs.Fitting.{fitted_at, fitted_instruction}
use Rattle.cpu_1401.specs.State.{State}
use Rattle.cpu_1401.specs.Tape.{unit_at}
use Rattle.cpu_1401.specs.declared.instruction.Instruction.{Instruction}
use Rattle.machine_tables.specs.declared.tape_unit.TapeUnit.{TapeUnit}
use Rattle.machine_tapes.specs.declared.work.TapeInstruction.{TapeInstruction}
use Rattle.machine_tapes.specs.declared.work.TapeMode.{TapeMode}
use Rattle.machine_tapes.specs.declared.work.TapeMode.TheVariants.{Move, Load}
use Rattle.machine_tapes.specs.declared.work.TapeWork.{TapeWork}
use Rattle.machine_tapes.specs.declared.work.TapeWork.TheVariants as work

-- what the d-characters of a transfer ask for, and those of a control
abbrev pub transfers : TapeMode → List (ℕ × TapeWork)
transfers how = row (codes "R") (work.Read how) ∷ row (codes "W") (work.Write how) ∷ []

abbrev pub controls : List (ℕ × TapeWork)
controls =
    row (codes "B") work.Backspace
    ∷ row (codes "E") work.Erase
    ∷ row (codes "M") work.WriteMark
    ∷ row (codes "R") work.Rewind
    ∷ row (codes "U") work.Unload
    ∷ []

-- what a d-character asks for, by what a feature makes of the instruction
abbrev pub work_of : Fitted → ℕ → Option TapeWork
work_of fitted.OnCell d = None
work_of fitted.OnBits d = None
work_of fitted.CharacterAgain d = None
work_of fitted.CellAgain d = None
work_of fitted.BitsAgain d = None
work_of fitted.StoreA d = None
work_of fitted.StoreB d = None
work_of fitted.StoreSecond d = None
work_of fitted.Halt d = None
work_of fitted.Feed d = None
work_of fitted.Multiply d = None
work_of fitted.Divide d = None
work_of fitted.MoveRecord d = None
work_of fitted.ModifyAddress d = None
work_of fitted.MoveTape d = meaning_in (transfers Move) (slice_index graphics d)
work_of fitted.LoadTape d = meaning_in (transfers Load) (slice_index graphics d)
work_of fitted.ControlTape d = meaning_in controls (slice_index graphics d)
work_of fitted.NoLength d = None

-- an instruction for a unit, if it names one and asks for something
abbrev pub asking : Option TapeUnit → Option TapeWork → Instruction → Option TapeInstruction
asking None work this = None
asking (Some unit) None this = None
asking (Some unit) (Some work) this = Some (record { unit = unit; work = work; b = this.b; next = this.next })

abbrev pub asking_as : Option Fitted → State → Option TapeInstruction
asking_as None s = None
asking_as (Some made) s =
    asking (unit_at s.storage (s.i + 1)) (work_of made (fitted_instruction s).d) (fitted_instruction s)

-- the tape instruction at the I register, on a machine that is fitted for it; none if it is no good one
unfoldable pub tape_instruction : State → Option TapeInstruction
tape_instruction s = asking_as (fitted_at s) s
