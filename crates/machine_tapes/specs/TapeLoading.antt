-- The key that loads from tape (own: A24-1403, "Tape Load Key", from memory).
use Rattle.std.specs.Prelude.{ℕ, false}
use Rattle.machine_tapes.specs.TapedStep.{TapedStepped, after_work}
use Rattle.machine_tapes.specs.Tapes.{unit_of}
use Rattle.machine_tapes.specs.Transfer.{work_at}
use Rattle.machine_tapes.specs.declared.taped_machine.TapedMachine.{TapedMachine}
use Rattle.machine_tapes.specs.declared.work.TapeInstruction.{TapeInstruction}
use Rattle.machine_tapes.specs.declared.work.TapeMode.TheVariants.{Load}
use Rattle.machine_tapes.specs.declared.work.TapeWork.TheVariants as work

-- where a record is loaded
abbrev pub loaded_at : ℕ
loaded_at = 1

-- what the key asks of a unit: L%U1001R for unit 1, and then the instruction at 001
abbrev pub loading : ℕ → TapeInstruction
loading number = record {
  unit = record { number = number; is_odd = false };
  work = work.Read Load;
  b = loaded_at;
  next = loaded_at;
}

-- what the key leaves, or why it can't load
abbrev pub loaded_from : ℕ → TapedMachine → TapedStepped
loaded_from number t =
    after_work (loading number) t (work_at (loading number) t.machine (unit_of t.tapes number))
