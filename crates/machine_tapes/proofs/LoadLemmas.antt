-- The key that loads from tape, if there is no unit or no record.
use Rattle.std.proofs.Common.{◌≡◌, ℕ, Option, None, Some, Ok, Err, refl, ap}
use Rattle.machine_tables.specs.declared.stop.Stop.{Stop}
use Rattle.machine_tables.specs.declared.stop.Stop.TheVariants.{Tape}
use Rattle.machine_tapes.specs.Drive.{no_reel}
use Rattle.machine_tapes.specs.TapeLoading.{loaded_from, loading}
use Rattle.machine_tapes.specs.TapedStep.{TapedStepped, after_work}
use Rattle.machine_tapes.specs.Tapes.{unit_of}
use Rattle.machine_tapes.specs.Transfer.{TapeOutcome, work_at}
use Rattle.machine_tapes.specs.declared.drive.Drive.{Drive}
use Rattle.machine_tapes.specs.declared.taped_machine.TapedMachine.{TapedMachine}
use Rattle.machine_tapes.specs.declared.work.TapeInstruction.{TapeInstruction}

-- a unit without a reel loads nothing
pub bare_load : (number : ℕ) (t : TapedMachine) → unit_of t.tapes number ≡ no_reel
    → loaded_from number t ≡ record { taped = t; stop = Some Tape }
unfolding work_at
bare_load number t bare =
    ap (λ (drive : Drive). after_work (loading number) t (work_at (loading number) t.machine drive)) bare

-- a tape instruction that is refused leaves all as it was
pub refused_stays : (this : TapeInstruction) (t : TapedMachine) (outcome : TapeOutcome) (why : Stop)
    → (after_work this t outcome).stop ≡ Some why → (after_work this t outcome).taped ≡ t
refused_stays this t (Ok done) why e = cc
refused_stays this t (Err stopped) why e = refl
