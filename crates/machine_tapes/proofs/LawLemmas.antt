-- What holds of every run with tape units.
use Rattle.std.proofs.Common.{◌≡◌, ℕ, zero, suc, ◌+◌, ◌-◌, ◌==◌, Bool, true, false, Option, None, Some, replicate}
use Rattle.std.proofs.Common.{get_or, refl, sym, ◌∙◌, ap, inl, inr}
use Rattle.std.specs.Prelude.{if◌then◌else◌}
use Rattle.std.proofs.lemmas.Bool.{cases_lt}
use Rattle.std.proofs.lemmas.List.{get_or-replicate, get_or_past}
use Rattle.machine_tables.specs.declared.stop.Stop.{Stop}
use Rattle.cpu_1401.specs.Fitting.{fitted_step}
use Rattle.cpu_1401.specs.Run.{run_for}
use Rattle.cpu_1401.specs.Run as plain
use Rattle.cpu_1401.specs.State.{State}
use Rattle.machine_tapes.specs.Drive.{no_reel}
use Rattle.machine_tapes.specs.Instruction.{tape_instruction}
use Rattle.machine_tapes.specs.TapedRun.{TapedFinished, finished_with, run_on, taped_run_for}
use Rattle.machine_tapes.specs.TapedStep.{TapedStepped, after_work, step_by, stepped_with, taped_step}
use Rattle.machine_tapes.specs.Tapes.{no_tapes, unit_of}
use Rattle.machine_tapes.specs.TapesLaw.{TapesLaw}
use Rattle.machine_tapes.specs.Transfer.{work_at}
use Rattle.machine_tapes.specs.declared.drive.Drive.{Drive}
use Rattle.machine_tapes.specs.declared.work.TapeInstruction.{TapeInstruction}
use Rattle.machine_tapes.proofs.CopyLemmas.{copies}
use Rattle.machine_tapes.proofs.InstructionLemmas.{tape_stops}
use Rattle.machine_tapes.proofs.RunLemmas.{other_step, with_tapes}
use Rattle.machine_tapes.proofs.TextLemmas.{load_again, move_again}

-- no unit has a reel
each_bare : (i : ℕ) → get_or (replicate 6 no_reel) i no_reel ≡ no_reel
each_bare i =
    elim (cases_lt i 6) [
      | inl lt ↦ get_or-replicate 6 i no_reel no_reel lt
      | inr le ↦ get_or_past (replicate 6 no_reel) i no_reel le
    ]

either_bare : (b : Bool) (drive : Drive) → drive ≡ no_reel → (if b then no_reel else drive) ≡ no_reel
either_bare true drive e = refl
either_bare false drive e = e

bare : (number : ℕ) → unit_of no_tapes number ≡ no_reel
bare number = either_bare (number == 0) (get_or (replicate 6 no_reel) (number - 1) no_reel) (each_bare (number - 1))

-- so a step is that of the machine alone
bare_step : (s : State) → taped_step (with_tapes no_tapes s) ≡ stepped_with no_tapes (fitted_step s)
unfolding work_at
bare_step s = other_step (with_tapes no_tapes s) refl ∙ by (tape_instruction s) refl
  where
    by : (found : Option TapeInstruction) → tape_instruction s ≡ found
        → step_by found (with_tapes no_tapes s) ≡ stepped_with no_tapes (fitted_step s)
    by None is = refl
    by (Some this) is =
        ap (λ (drive : Drive). after_work this (with_tapes no_tapes s) (work_at this s drive)) (bare this.unit.number)
        ∙ ap (stepped_with no_tapes) (sym (tape_stops s this is))

bare_on : (o : Option Stop) (s : State) (limit : ℕ)
    → taped_run_for limit (with_tapes no_tapes s) ≡ finished_with no_tapes (run_for limit s)
    → run_on (stepped_with no_tapes (record { state = s; stop = o })) (taped_run_for limit (with_tapes no_tapes s))
    ≡ finished_with no_tapes (plain.run_on (record { state = s; stop = o }) (run_for limit s))
bare_on None s limit e =
    ap (λ (run : TapedFinished). let x : TapedFinished = record run { steps = run.steps + 1 } in x) e
bare_on (Some why) s limit e = refl

without_reels : (limit : ℕ) (s : State)
    → taped_run_for limit (with_tapes no_tapes s) ≡ finished_with no_tapes (run_for limit s)
unfolding taped_run_for run_for
without_reels zero s = refl
without_reels (suc limit) s =
    ap (λ (done : TapedStepped). run_on done (taped_run_for limit done.taped)) (bare_step s)
    ∙ bare_on (fitted_step s).stop (fitted_step s).state limit (without_reels limit (fitted_step s).state)

pub tapes_laws : TapesLaw
tapes_laws = record {
  without_reels = without_reels;
  load_again = load_again;
  move_again = move_again;
  copies = copies;
}
