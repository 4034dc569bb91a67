-- What a step of a machine with tape units stops for.
use Rattle.std.proofs.Common.{◌≡◌, ℕ, true, false, refl, sym, ap, ◌∙◌}
use Rattle.std.specs.Prelude.{Option, None, Some, Ok, Err}
use Rattle.machine_tables.specs.declared.stop.Stop.TheVariants as stop
use Rattle.cpu_1401.specs.State.{State}
use Rattle.machine_tapes.specs.Drive.{no_reel}
use Rattle.machine_tapes.specs.Instruction.{tape_instruction}
use Rattle.machine_tapes.specs.TapeLoading.{loaded_from, loading}
use Rattle.machine_tapes.specs.TapedStep.{after_work, step_by, takes_file_branch, taped_step}
use Rattle.machine_tapes.specs.Tapes.{unit_of}
use Rattle.machine_tapes.specs.Transfer.{TapeOutcome, stop_after, work_at, work_ready}
use Rattle.machine_tapes.specs.declared.drive.Drive.{Drive}
use Rattle.machine_tapes.specs.declared.taped_machine.TapedMachine.{TapedMachine}
use Rattle.machine_tapes.specs.declared.work.TapeInstruction.{TapeInstruction}

-- a tape instruction
pub work_stops : (this : TapeInstruction) (t : TapedMachine) (outcome : TapeOutcome)
    → (after_work this t outcome).stop ≡ stop_after outcome
work_stops this t (Ok done) = refl
work_stops this t (Err why) = refl

-- a branch that is taken because a file has ended
pub branch_stops : (t : TapedMachine) → takes_file_branch t ≡ true → None ≡ (taped_step t).stop
unfolding taped_step
branch_stops t taken = rw taken refl

-- a step that is none, by the instruction
pub step_stops : (t : TapedMachine) (found : Option TapeInstruction) → takes_file_branch t ≡ false
    → found ≡ tape_instruction t.machine → (taped_step t).stop ≡ (step_by found t).stop
unfolding taped_step
step_stops t found other is = rw (other, is) refl

-- a unit that isn't ready, and one that is
pub unready_stops : (this : TapeInstruction) (s : State) (drive : Drive) → drive.is_ready ≡ false
    → Some stop.Tape ≡ stop_after (work_at this s drive)
unfolding work_at
unready_stops this s drive unready = rw unready refl

pub ready_stops : (this : TapeInstruction) (s : State) (drive : Drive) → drive.is_ready ≡ true
    → stop_after (work_ready this.work this s drive) ≡ stop_after (work_at this s drive)
unfolding work_at
ready_stops this s drive ready = rw ready refl

-- a unit without a reel can't be loaded
pub unloaded_stops : (number : ℕ) (t : TapedMachine) → unit_of t.tapes number ≡ no_reel
    → Some stop.Tape ≡ (loaded_from number t).stop
unloaded_stops number t none =
    unready_stops (loading number) t.machine (unit_of t.tapes number) (ap (λ (drive : Drive). drive.is_ready) none)
    ∙ sym (work_stops (loading number) t (work_at (loading number) t.machine (unit_of t.tapes number)))
