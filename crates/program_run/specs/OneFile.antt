-- Names of one run that lead to one file (own). Nothing is said of when they do.
use Rattle.std.specs.Prelude.{◌≡◌, ◌⊎◌, ℕ, ⊤, List, Option, Some, string_bytes}
use Rattle.program_arguments.specs.declared.call.MountedReel.{MountedReel}
use Rattle.program_arguments.specs.declared.call.ReelSource.{ReelSource}
use Rattle.program_run.specs.RunFile.{InputNames, IsInput, IsName, IsWrittenName, WrittenNames}
use Rattle.program_run.specs.RunReels.{IsReadFrom, IsReadReel, IsWrittenReel, IsWrittenTo}
use Rattle.program_run.specs.declared.one_file.Clash.{Clash}
use Rattle.program_run.specs.declared.one_file.Clash.TheVariants as clash

-- these two names, if there are both
abbrev pub IsClash : Option (List ℕ) → Option (List ℕ) → Clash → Type 0
IsClash first second clash.Memory = ⊤
IsClash first second (clash.Names one other) =
    (first ≡ Some (string_bytes one)) × (second ≡ Some (string_bytes other))

-- this name, if there is one, and one of a file that is written
abbrev pub IsInputClash : Option (List ℕ) → WrittenNames → Clash → Type 0
IsInputClash input outputs clash.Memory = ⊤
IsInputClash input outputs (clash.Names one other) =
    (input ≡ Some (string_bytes one)) × IsWrittenName outputs (string_bytes other)

-- two of a run's names, the second one of a file that is written
abbrev pub IsClashOf : InputNames → WrittenNames → Clash → Type 0
IsClashOf inputs outputs clash.Memory = ⊤
IsClashOf inputs outputs (clash.Names one other) =
    IsName inputs outputs (string_bytes one) × IsWrittenName outputs (string_bytes other)

-- a name of the file of a reel, or of one of these
abbrev pub IsReelFile : ReelSource → List ℕ → Type 0
IsReelFile reel name = IsReadFrom reel name ⊎ IsWrittenTo reel name

abbrev pub IsAnyReel : List MountedReel → List ℕ → Type 0
IsAnyReel reels name = IsReadReel reels name ⊎ IsWrittenReel reels name

-- the files of these two reels, the second one written
abbrev pub IsReelPair : ReelSource → ReelSource → Clash → Type 0
IsReelPair first second clash.Memory = ⊤
IsReelPair first second (clash.Names one other) =
    (IsReelFile first (string_bytes one) × IsWrittenTo second (string_bytes other))
    ⊎ (IsReelFile second (string_bytes one) × IsWrittenTo first (string_bytes other))

-- the files of two of these reels, the second one written
abbrev pub IsReelsClash : List MountedReel → Clash → Type 0
IsReelsClash reels clash.Memory = ⊤
IsReelsClash reels (clash.Names one other) =
    IsAnyReel reels (string_bytes one) × IsWrittenReel reels (string_bytes other)

-- the program or the deck, and this file
abbrev pub IsReadClash : InputNames → List ℕ → Clash → Type 0
IsReadClash inputs file clash.Memory = ⊤
IsReadClash inputs file (clash.Names one other) = IsInput inputs (string_bytes one) × (file ≡ string_bytes other)

-- the file of a reel and one that is written; or the program or the deck, and the file of a reel that is written
abbrev pub IsClashWithReel : InputNames → WrittenNames → ReelSource → Clash → Type 0
IsClashWithReel inputs outputs reel clash.Memory = ⊤
IsClashWithReel inputs outputs reel (clash.Names one other) =
    (IsReelFile reel (string_bytes one) × IsWrittenName outputs (string_bytes other))
    ⊎ (IsInput inputs (string_bytes one) × IsWrittenTo reel (string_bytes other))
