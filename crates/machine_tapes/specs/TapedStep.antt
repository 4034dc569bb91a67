-- One step of a machine with tape units (A24-1403, "Magnetic Tape", from memory).
use Rattle.std.specs.Prelude.{ℕ, ◌==◌, ◌&&◌, Bool, false, List, Option, None, Some, Ok, Err, codes, length}
use Rattle.std.specs.Prelude.{slice_index, slice_index_or, if◌then◌else◌}
use Rattle.bcd_1401.specs.Graphic.{graphics}
use Rattle.bcd_1401.specs.declared.cell.Cell.{Cell}
use Rattle.core_1401.specs.Storage.{blank}
use Rattle.machine_tables.specs.declared.operation.Operation.TheVariants.{Branch}
use Rattle.machine_tables.specs.declared.stop.Stop.{Stop}
use Rattle.cpu_1401.specs.Branch.{branch_to}
use Rattle.cpu_1401.specs.Fetched.{next_instruction}
use Rattle.cpu_1401.specs.Fitting.{fitted_step}
use Rattle.cpu_1401.specs.Instruction.{instruction_of}
use Rattle.cpu_1401.specs.State.{State}
use Rattle.cpu_1401.specs.Stepped.{Stepped}
use Rattle.machine_tapes.specs.Instruction.{tape_instruction}
use Rattle.machine_tapes.specs.Tapes.{Tapes, is_latched, no_tapes, unit_of, with_selected, without_latch}
use Rattle.machine_tapes.specs.Transfer.{TapeOutcome, work_at}
use Rattle.machine_tapes.specs.declared.taped_machine.TapedMachine.{TapedMachine}
use Rattle.machine_tapes.specs.declared.work.TapeInstruction.{TapeInstruction}

-- a machine whose units have no reels
abbrev pub without_reels : State → TapedMachine
without_reels s = record { machine = s; tapes = no_tapes }

-- what a step leaves, and why the machine stops, if it does
pub record TapedStepped : Type 0 where
  pub taped : TapedMachine
  pub stop : Option Stop

-- what a step of the machine alone leaves, with these tape units
abbrev pub stepped_with : Tapes → Stepped → TapedStepped
stepped_with tapes t = record { taped = record { machine = t.state; tapes = tapes }; stop = t.stop }

-- the branch if a file has ended: how many characters it has, the graphic of its operation, and of its d-character
abbrev pub file_branch_len : ℕ
file_branch_len = 5

abbrev pub branch_graphic : ℕ
branch_graphic = slice_index (codes "B") 0

abbrev pub file_graphic : ℕ
file_graphic = slice_index (codes "K") 0

-- the graphic of one of the cells of an instruction
abbrev pub graphic_in : List Cell → ℕ → ℕ
graphic_in cells at = slice_index graphics (slice_index_or cells at blank).char

-- whether an instruction is this branch
abbrev pub is_file_branch : Option (List Cell) → Bool
is_file_branch None = false
is_file_branch (Some cells) =
    (length cells == file_branch_len)
    && (graphic_in cells 0 == branch_graphic)
    && (graphic_in cells 4 == file_graphic)

-- whether it is taken: the selected unit met the end of a file since the last one was
abbrev pub takes_file_branch : TapedMachine → Bool
takes_file_branch t = is_latched t.tapes && is_file_branch (next_instruction t.machine)

-- after it was taken
abbrev pub after_file_branch : TapedMachine → TapedMachine
after_file_branch t = record {
  machine = branch_to (instruction_of Branch file_branch_len t.machine) t.machine;
  tapes = without_latch t.tapes;
}

-- after a tape instruction, which selects its unit, or was refused and leaves all as it was
abbrev pub after_work : TapeInstruction → TapedMachine → TapeOutcome → TapedStepped
after_work this t (Ok done) = record {
  taped = record { machine = done.0; tapes = with_selected this.unit.number done.1 t.tapes };
  stop = None;
}
after_work this t (Err why) = record { taped = t; stop = Some why }

-- a step by the tape instruction at the I register, or by another instruction
abbrev pub step_by : Option TapeInstruction → TapedMachine → TapedStepped
step_by None t = stepped_with t.tapes (fitted_step t.machine)
step_by (Some this) t = after_work this t (work_at this t.machine (unit_of t.tapes this.unit.number))

-- one step of the machine with its tape units
unfoldable pub taped_step : TapedMachine → TapedStepped
taped_step t =
    if takes_file_branch t then record { taped = after_file_branch t; stop = None }
    else step_by (tape_instruction t.machine) t
