-- Units that there aren't.
use Rattle.std.proofs.Common.{◌≡◌, ℕ, ◌-◌, ◌<◌, ◌==◌, Bool, true, false, length, get_or, refl, arith}
use Rattle.std.specs.Prelude.{if◌then◌else◌}
use Rattle.std.proofs.lemmas.List.{get_or_past}
use Rattle.machine_tapes.specs.Drive.{no_reel}
use Rattle.machine_tapes.specs.Tapes.{Tapes, unit_of}
use Rattle.machine_tapes.specs.declared.drive.Drive.{Drive}

either_none : (b : Bool) (drive : Drive) → drive ≡ no_reel → (if b then no_reel else drive) ≡ no_reel
either_none true drive e = refl
either_none false drive e = e

-- none has a number beyond the last
pub no_unit : (tapes : Tapes) (number : ℕ) → length tapes.units < number → unit_of tapes number ≡ no_reel
no_unit tapes number past =
    either_none (number == 0) (get_or tapes.units (number - 1) no_reel)
    (get_or_past tapes.units (number - 1) no_reel (omega (arith, past)))
