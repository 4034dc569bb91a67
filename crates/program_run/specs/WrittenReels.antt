-- The reels that are written when a job has ended: what is handed over for each file (own). Nothing is said of what the
-- files have then.
use Rattle.std.specs.Prelude.{◌≡◌, ◌&&◌, nat_le, ℕ, ⊤, Bool, true, false, List, [], ◌∷◌, ◌++◌, Option, None, Some}
use Rattle.std.specs.Prelude.{IfSome, if◌then◌else◌, string_bytes}
use Rattle.machine_tables.specs.TapeUnit.{tape_units}
use Rattle.machine_tapes.specs.Reel.{records_of}
use Rattle.machine_tapes.specs.TapText.{tap_text}
use Rattle.machine_tapes.specs.Tapes.{Tapes, unit_of}
use Rattle.program_arguments.specs.declared.call.MountedReel.{MountedReel}
use Rattle.program_arguments.specs.declared.call.ReelSource.{ReelSource}
use Rattle.program_arguments.specs.declared.call.ReelSource.TheVariants as source
use Rattle.program_run.specs.GivenReels.{GivenReel}

-- what is handed over for a file: its name, whether it is to be a new one, and its text; no text if memory for it is
-- refused
pub record ReelFile : Type 0 where
  pub name : List ℕ
  pub is_new : Bool
  pub text : Option (List ℕ)

abbrev pub reel_file : List ℕ → Bool → Option (List ℕ) → ReelFile
reel_file name is_new text = record { name = name; is_new = is_new; text = text }

-- what is known of the files of reels: what was read, and what was handed over
pub record KnownFiles : Type 0 where
  pub given : Option (List GivenReel)
  pub handed : Option (List ReelFile)

abbrev pub known_files : Option (List GivenReel) → Option (List ReelFile) → KnownFiles
known_files given handed = record { given = given; handed = handed }

-- after what was handed over, if that is known, these files are
abbrev pub HandsOver : Option (List ReelFile) → Option (List ReelFile) → List ReelFile → Type 0
HandsOver None new files = ⊤
HandsOver (Some before) None files = ⊥
HandsOver (Some before) (Some after) files = after ≡ before ++ files

-- the file of a reel that has a ring, with this text
abbrev pub file_with : Option (List ℕ) → ReelSource → List ReelFile
file_with text (source.File name) = []
file_with text (source.Ringed name) = reel_file (string_bytes name) false text ∷ []
file_with text (source.New name) = reel_file (string_bytes name) true text ∷ []
file_with text source.Scratch = []

-- the same of a reel that is on a unit; a number that no unit has gives none
abbrev pub file_of : Option (List ℕ) → MountedReel → List ReelFile
file_of text it = if nat_le 1 it.unit && nat_le it.unit tape_units then file_with text it.reel else []

-- the text of all records of the reel on a unit
abbrev pub text_on : Tapes → ℕ → List ℕ
text_on tapes number = tap_text (records_of (unit_of tapes number).reel)

-- the files of these reels, each with the text of the reel on its unit
abbrev pub files_of : Tapes → List MountedReel → List ReelFile
files_of tapes [] = []
files_of tapes (first ∷ reels) = file_of (Some (text_on tapes first.unit)) first ++ files_of tapes reels

-- a file is handed over with this text, or without one
abbrev pub IsHandedOver : List ℕ → (Option (List ℕ) → List ReelFile) → Option (List ReelFile) → Option (List ReelFile)
    → Type 0
IsHandedOver wanted file old new =
    (text : Option (List ℕ)) × IfSome text (λ found. found ≡ wanted) × HandsOver old new (file text)

-- those of these reels are, one after the other
abbrev pub AreHandedOver : Tapes → List MountedReel → Option (List ReelFile) → Option (List ReelFile) → Type 0
AreHandedOver tapes [] old new = new ≡ old
AreHandedOver tapes (first ∷ reels) old new =
    (between : Option (List ReelFile))
    × IsHandedOver (text_on tapes first.unit) (λ text. file_of text first) old between
    × AreHandedOver tapes reels between new
