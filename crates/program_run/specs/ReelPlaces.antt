-- How far reels are (own). Tape marks are counted as records.
use Rattle.std.specs.Prelude.{ℕ, ◌==◌, List, [], ◌∷◌, length, map, Option, None, Some, if◌then◌else◌}
use Rattle.machine_tapes.specs.Reel.{records_of}
use Rattle.machine_tapes.specs.Tapes.{Tapes, unit_of}
use Rattle.machine_tapes.specs.declared.drive.Drive.{Drive}
use Rattle.program_run.specs.declared.ending.ReelPlace.{ReelPlace}

-- how many records the head of a unit has passed, and how many there are; nothing if its reel has no room: it is none
abbrev pub place_of : Drive → Option ReelPlace
place_of drive =
    if drive.reel.capacity == 0 then None
    else Some (record { passed = length drive.reel.passed; records = length (records_of drive.reel) })

-- the same of each unit
abbrev pub places_of : Tapes → List (Option ReelPlace)
places_of tapes = map (λ (number : ℕ). place_of (unit_of tapes number)) (1 ∷ 2 ∷ 3 ∷ 4 ∷ 5 ∷ 6 ∷ [])
