-- The reels that `--tape` and `--load-tape` name, and how a program is started (own).
use Rattle.std.specs.Prelude.{◌≡◌, ◌≢◌, ◌≤◌, ◌++◌, ◌∷◌, ◌+◌, ℕ, Bool, true, false, List, [], Option, None, Some}
use Rattle.std.specs.Prelude.{⊤, All, codes, is_some, map, not, ◌&&◌, nat_eq, option_and_then, string_bytes}
use Rattle.std.specs.Prelude.{option_map}
use Rattle.std.specs.List.{list_any, slice_get}
use Rattle.clap.specs.Words.{first_value}
use Rattle.clap.specs.declared.parser.matches.Found.{Found}
use Rattle.machine_tables.specs.declared.features.Features.{Features}
use Rattle.program_arguments.specs.Mounted.{file_of}
use Rattle.program_arguments.specs.declared.call.MountedReel.{MountedReel}
use Rattle.program_arguments.specs.declared.call.ReelSource.{ReelSource}
use Rattle.program_arguments.specs.declared.call.ReelSource.TheVariants as reel
use Rattle.program_arguments.specs.declared.call.Start.{Start}
use Rattle.program_arguments.specs.declared.call.Start.TheVariants as start
use Rattle.program_arguments.specs.Options.{IsFlagIn, values_in}

-- what is typed for a reel: the name of its file, with :ring or :new after it or without; or :scratch
abbrev pub reel_text : ReelSource → List ℕ
reel_text (reel.File name) = string_bytes name
reel_text (reel.Ringed name) = string_bytes name ++ codes ":ring"
reel_text (reel.New name) = string_bytes name ++ codes ":new"
reel_text reel.Scratch = codes ":scratch"

-- what is typed for a reel on a unit: the unit's digit, =, and the reel
abbrev pub mounted_text : MountedReel → List ℕ
mounted_text mounted = (48 + mounted.unit) ∷ 61 ∷ reel_text mounted.reel

-- a name is read as such only if it doesn't end as one with a ring or a new one does
abbrev pub IsPlainName : List ℕ → Type 0
IsPlainName name =
    (name ≢ codes ":scratch")
    × ((front : List ℕ) → name ≢ front ++ codes ":ring") × ((front : List ℕ) → name ≢ front ++ codes ":new")

abbrev pub IsReelNamed : ReelSource → Type 0
IsReelNamed (reel.File name) = (string_bytes name ≢ []) × IsPlainName (string_bytes name)
IsReelNamed (reel.Ringed name) = string_bytes name ≢ []
IsReelNamed (reel.New name) = string_bytes name ≢ []
IsReelNamed reel.Scratch = ⊤

-- a reel that can be named, on a unit that there is
abbrev pub IsMountable : MountedReel → Type 0
IsMountable mounted = (1 ≤ mounted.unit) × (mounted.unit ≤ 6) × IsReelNamed mounted.reel

-- whether no unit comes twice
abbrev pub are_apart : List ℕ → Bool
are_apart [] = true
are_apart (unit ∷ units) = not (list_any (nat_eq unit) units) && are_apart units

-- the reels that these texts ask for
pub record AreMounted (texts : List (List ℕ)) (reels : List MountedReel) : Type 0 where
  pub named : map mounted_text reels ≡ texts
  pub mountable : All IsMountable reels
  pub apart : are_apart (map (λ each. each.unit) reels) ≡ true

-- a reel of a file that there is
abbrev pub IsOld : ReelSource → Type 0
IsOld (reel.File name) = ⊤
IsOld (reel.Ringed name) = ⊤
IsOld (reel.New name) = ⊥
IsOld reel.Scratch = ⊥

-- the texts of the options: that of the reel which is loaded comes first
abbrev pub texts_of : Option (List ℕ) → List (List ℕ) → List (List ℕ)
texts_of None tapes = tapes
texts_of (Some loaded) tapes = loaded ∷ tapes

-- the first reel is that of a file which there is
abbrev pub IsLoadable : List MountedReel → Type 0
IsLoadable [] = ⊥
IsLoadable (first ∷ reels) = IsOld first.reel

-- the reels that the options name: the loaded one is that of a file
pub record AreReelsIn (found : Found) (reels : List MountedReel) : Type 0 where
  pub named : AreMounted (texts_of (first_value found (codes "load-tape")) (values_in found (codes "tape"))) reels
  pub loaded : is_some (first_value found (codes "load-tape")) ≡ true → IsLoadable reels

-- how a program is started: by the key that loads from tape, by the load key, or at its entry
abbrev pub IsStartIn : Found → List MountedReel → Start → Type 0
IsStartIn found reels start.Entry =
    (is_some (first_value found (codes "load-tape")) ≡ false) × IsFlagIn found (codes "load") false
IsStartIn found reels start.LoadKey =
    (is_some (first_value found (codes "load-tape")) ≡ false) × IsFlagIn found (codes "load") true
IsStartIn found reels (start.LoadTape unit) =
    (is_some (first_value found (codes "load-tape")) ≡ true)
    × (option_map (λ each. each.unit) (slice_get reels 0) ≡ Some unit)

-- whether a reel is loaded
abbrev pub loads_tape : Start → Bool
loads_tape start.Entry = false
loads_tape start.LoadKey = false
loads_tape (start.LoadTape unit) = true

-- the name of a program's file: that of the reel which is loaded, or else this one
abbrev pub program_name : List ℕ → List MountedReel → Start → Option (List ℕ)
program_name name reels start.Entry = Some name
program_name name reels start.LoadKey = Some name
program_name name reels (start.LoadTape unit) = option_and_then (λ each. file_of each.reel) (slice_get reels 0)

-- what the machine is fitted with: reels need tape units
abbrev pub fitted_for : List MountedReel → Features → Features
fitted_for [] features = features
fitted_for (reel ∷ reels) features = record features { tapes = true }
