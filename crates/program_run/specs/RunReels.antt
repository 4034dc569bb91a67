-- The reels of a job: what is mounted, and what is reported of their files (own). Nothing is said of the files themselves.
use Rattle.std.specs.Prelude.{◌≡◌, ◌⊎◌, ◌&&◌, nat_le, ℕ, List, [], ◌∷◌, Ok, Option, String, string_bytes}
use Rattle.std.specs.Prelude.{if◌then◌else◌}
use Rattle.std.specs.Global.{Global}
use Rattle.bytes_descriptors.specs.declared.fault.FileFault.{FileFault}
use Rattle.machine_tables.specs.TapeUnit.{tape_units}
use Rattle.machine_tapes.specs.Reel.{Reel, mounted}
use Rattle.machine_tapes.specs.TapReading.{Gives, records_read}
use Rattle.machine_tapes.specs.declared.fault.TapFault.{TapFault}
use Rattle.machine_tapes.specs.Drive.{mounted_on}
use Rattle.machine_tapes.specs.Tapes.{Tapes, with_unit}
use Rattle.machine_tapes.specs.declared.drive.Drive.{Drive}
use Rattle.program_arguments.specs.Mounted.{has_ring}
use Rattle.program_arguments.specs.declared.call.MountedReel.{MountedReel}
use Rattle.program_arguments.specs.declared.call.ReelSource.{ReelSource}
use Rattle.program_arguments.specs.declared.call.ReelSource.TheVariants as source
use Rattle.program_run.specs.GivenReels.{GivenReel, IsGiven}
use Rattle.program_run.specs.declared.fault.RunFault.{RunFault}
use Rattle.program_run.specs.declared.fault.RunFault.TheVariants as fault

-- how many characters a reel has room for, unless its file has more
abbrev pub reel_room : ℕ
reel_room = 4000000

-- the reel of the text of the file of this name, which is read
abbrev pub IsReelText : Option (List GivenReel) → Option (List GivenReel) → List ℕ → Reel → Type 0
IsReelText before after name reel =
    (text : List ℕ) × IsGiven before after name text × Gives (Ok reel) reel_room (records_read text)

-- the reel that is mounted: that of a file's text, or an empty one
abbrev pub IsReelOf : ReelSource → Option (List GivenReel) → Option (List GivenReel) → Reel → Type 0
IsReelOf (source.File name) before after reel = IsReelText before after (string_bytes name) reel
IsReelOf (source.Ringed name) before after reel = IsReelText before after (string_bytes name) reel
IsReelOf (source.New name) before after reel = (after ≡ before) × (reel ≡ mounted [] reel_room)
IsReelOf source.Scratch before after reel = (after ≡ before) × (reel ≡ mounted [] reel_room)

-- tape units with this one in place of the one of this number; a number that no unit has changes nothing
abbrev pub with_drive : ℕ → Drive → Tapes → Tapes
with_drive number drive tapes =
    if nat_le 1 number && nat_le number tape_units then with_unit number drive tapes else tapes

-- a reel is put on its unit, with a ring or without it
abbrev pub IsMounted : MountedReel → Option (List GivenReel) → Option (List GivenReel) → Tapes → Tapes → Type 0
IsMounted it before after old new =
    (reel : Reel) × IsReelOf it.reel before after reel
    × (new ≡ with_drive it.unit (mounted_on reel (has_ring it.reel)) old)

-- each of these reels is, one after the other
abbrev pub AreMounted : List MountedReel → Option (List GivenReel) → Option (List GivenReel) → Tapes → Tapes → Type 0
AreMounted [] before after old new = (after ≡ before) × (new ≡ old)
AreMounted (first ∷ reels) before after old new =
    (given : Option (List GivenReel)) × (between : Tapes)
    × IsMounted first before given old between × AreMounted reels given after between new

-- a file of this name has the reel, gets it when the job has ended, or is made then
abbrev pub IsReadFrom : ReelSource → List ℕ → Type 0
IsReadFrom (source.File name) file = string_bytes name ≡ file
IsReadFrom (source.Ringed name) file = string_bytes name ≡ file
IsReadFrom (source.New name) file = ⊥
IsReadFrom source.Scratch file = ⊥

abbrev pub IsWrittenTo : ReelSource → List ℕ → Type 0
IsWrittenTo (source.File name) file = ⊥
IsWrittenTo (source.Ringed name) file = string_bytes name ≡ file
IsWrittenTo (source.New name) file = string_bytes name ≡ file
IsWrittenTo source.Scratch file = ⊥

abbrev pub IsNewFile : ReelSource → List ℕ → Type 0
IsNewFile (source.File name) file = ⊥
IsNewFile (source.Ringed name) file = ⊥
IsNewFile (source.New name) file = string_bytes name ≡ file
IsNewFile source.Scratch file = ⊥

abbrev pub IsRingedFile : ReelSource → List ℕ → Type 0
IsRingedFile (source.File name) file = ⊥
IsRingedFile (source.Ringed name) file = string_bytes name ≡ file
IsRingedFile (source.New name) file = ⊥
IsRingedFile source.Scratch file = ⊥

-- the files of a job's reels that are read, those that are written, those of new reels, and those that are read and
-- written
abbrev pub IsReadReel : List MountedReel → List ℕ → Type 0
IsReadReel [] name = ⊥
IsReadReel (first ∷ reels) name = IsReadFrom first.reel name ⊎ IsReadReel reels name

abbrev pub IsWrittenReel : List MountedReel → List ℕ → Type 0
IsWrittenReel [] name = ⊥
IsWrittenReel (first ∷ reels) name = IsWrittenTo first.reel name ⊎ IsWrittenReel reels name

abbrev pub IsNewReel : List MountedReel → List ℕ → Type 0
IsNewReel [] name = ⊥
IsNewReel (first ∷ reels) name = IsNewFile first.reel name ⊎ IsNewReel reels name

abbrev pub IsRingedReel : List MountedReel → List ℕ → Type 0
IsRingedReel [] name = ⊥
IsRingedReel (first ∷ reels) name = IsRingedFile first.reel name ⊎ IsRingedReel reels name

-- a fault that names a file of this name
abbrev pub IsNamed : (String Global → RunFault) → List ℕ → RunFault → Type 0
IsNamed of file why = (name : String Global) × (why ≡ of name) × (string_bytes name ≡ file)

-- the file of this name can't be read, or is no reel
abbrev pub IsOfReelFile : List ℕ → RunFault → Type 0
IsOfReelFile file why =
    (why ≡ fault.Memory)
    ⊎ (((cause : FileFault) × IsNamed (λ name. fault.File name cause) file why)
    ⊎ ((cause : TapFault) × IsNamed (λ name. fault.Reel name cause) file why))

-- it is there already
abbrev pub IsThere : List ℕ → RunFault → Type 0
IsThere file why = (why ≡ fault.Memory) ⊎ IsNamed fault.Exists file why

-- it isn't written
abbrev pub IsNotPut : List ℕ → RunFault → Type 0
IsNotPut file why = (why ≡ fault.Memory) ⊎ IsNamed fault.Unwritten file why

-- the name is no longer that of the file that was read
abbrev pub IsReplaced : List ℕ → RunFault → Type 0
IsReplaced file why = (beside : String Global) × IsNamed (λ name. fault.Replaced name beside) file why

-- why the file of a reel that is written can't be made or written
abbrev pub IsUnmadeOf : ReelSource → RunFault → Type 0
IsUnmadeOf from why = (file : List ℕ) × IsWrittenTo from file × IsNotPut file why

-- why a reel isn't mounted
abbrev pub IsUnmountedOf : ReelSource → RunFault → Type 0
IsUnmountedOf (source.File name) why = IsOfReelFile (string_bytes name) why
IsUnmountedOf (source.Ringed name) why = IsOfReelFile (string_bytes name) why
IsUnmountedOf (source.New name) why = IsThere (string_bytes name) why
IsUnmountedOf source.Scratch why = why ≡ fault.Memory

-- why it isn't written
abbrev pub IsUnwrittenOf : ReelSource → RunFault → Type 0
IsUnwrittenOf (source.File name) why = ⊥
IsUnwrittenOf (source.Ringed name) why = IsNotPut (string_bytes name) why ⊎ IsReplaced (string_bytes name) why
IsUnwrittenOf (source.New name) why = IsNotPut (string_bytes name) why ⊎ IsThere (string_bytes name) why
IsUnwrittenOf source.Scratch why = ⊥

-- why one of these reels isn't mounted
abbrev pub IsUnmounted : List MountedReel → RunFault → Type 0
IsUnmounted [] why = why ≡ fault.Memory
IsUnmounted (first ∷ reels) why = IsUnmountedOf first.reel why ⊎ IsUnmounted reels why

-- why one isn't written
abbrev pub IsUnwrittenReel : List MountedReel → RunFault → Type 0
IsUnwrittenReel [] why = ⊥
IsUnwrittenReel (first ∷ reels) why = IsUnwrittenOf first.reel why ⊎ IsUnwrittenReel reels why
