-- What a run of files may be refused or fail by (own). Nothing is said of the files themselves. A name is the list of
-- its bytes.
use Rattle.std.specs.Prelude.{◌≡◌, ◌≢◌, ◌⊎◌, ℕ, ⊤, true, List, Option, Some, option_map, string_bytes}
use Rattle.machine_tables.specs.declared.stop.Stop.TheVariants as stop
use Rattle.autocoder_deck.specs.declared.entry.LoadFault.{LoadFault}
use Rattle.program_arguments.specs.declared.call.Job.{Job}
use Rattle.program_arguments.specs.declared.call.Start.{Start}
use Rattle.program_arguments.specs.declared.call.Start.TheVariants as start
use Rattle.program_arguments.specs.declared.call.MountedReel.{MountedReel}
use Rattle.program_arguments.specs.SourceSize.{is_refused}
use Rattle.program_run.specs.RunReels.{IsNewReel, IsNotPut, IsReadReel, IsRingedReel, IsUnmounted, IsWrittenReel}
use Rattle.program_run.specs.declared.fault.RunFault.{RunFault}
use Rattle.program_run.specs.declared.fault.RunFault.TheVariants as fault

-- a file of this name that can't be read
abbrev pub IsUnreadFile : List ℕ → RunFault → Type 0
IsUnreadFile file fault.Output = ⊥
IsUnreadFile file fault.Size = ⊥
IsUnreadFile file (fault.File name why) = string_bytes name ≡ file
IsUnreadFile file (fault.Unwritten name) = ⊥
IsUnreadFile file (fault.OneFile first second) = ⊥
IsUnreadFile file (fault.Deck name why) = ⊥
IsUnreadFile file (fault.Unloaded why) = ⊥
IsUnreadFile file (fault.Stopped ending) = ⊥
IsUnreadFile file (fault.Source why) = ⊥
IsUnreadFile file (fault.Image why) = ⊥
IsUnreadFile file (fault.Reel name why) = ⊥
IsUnreadFile file (fault.Exists name) = ⊥
IsUnreadFile file (fault.Replaced name beside) = ⊥
IsUnreadFile file fault.Memory = ⊤

-- a file of this name that can't be read, or is no deck
abbrev pub IsOfFile : List ℕ → RunFault → Type 0
IsOfFile file fault.Output = ⊥
IsOfFile file fault.Size = ⊥
IsOfFile file (fault.File name why) = string_bytes name ≡ file
IsOfFile file (fault.Unwritten name) = ⊥
IsOfFile file (fault.OneFile first second) = ⊥
IsOfFile file (fault.Deck name why) = string_bytes name ≡ file
IsOfFile file (fault.Unloaded why) = ⊥
IsOfFile file (fault.Stopped ending) = ⊥
IsOfFile file (fault.Source why) = ⊥
IsOfFile file (fault.Image why) = ⊥
IsOfFile file (fault.Reel name why) = ⊥
IsOfFile file (fault.Exists name) = ⊥
IsOfFile file (fault.Replaced name beside) = ⊥
IsOfFile file fault.Memory = ⊤

-- the names of the files that a run reads: its program, and its deck if it has one
pub record InputNames : Type 0 where
  pub program : List ℕ
  pub deck : Option (List ℕ)

abbrev pub input_names : List ℕ → Option (List ℕ) → InputNames
input_names program deck = record { program = program; deck = deck }

-- only the program's or the deck's file is reported unreadable
abbrev pub IsInput : InputNames → List ℕ → Type 0
IsInput names name = (name ≡ names.program) ⊎ (names.deck ≡ Some name)

-- a file that is no deck is that of the deck, or one that loads itself
abbrev pub IsDeck : Start → InputNames → List ℕ → Type 0
IsDeck how names name = ((how ≡ start.LoadKey) × (name ≡ names.program)) ⊎ (names.deck ≡ Some name)

-- why there is nothing to be run: no such size is named; a file; a source or an image, unless the load key is pressed
abbrev pub IsUnread : Start → Option ℕ → InputNames → RunFault → Type 0
IsUnread how size names fault.Output = ⊥
IsUnread how size names fault.Size = is_refused size ≡ true
IsUnread how size names (fault.File name why) = IsInput names (string_bytes name)
IsUnread how size names (fault.Unwritten name) = ⊥
IsUnread how size names (fault.OneFile first second) = ⊥
IsUnread how size names (fault.Deck name why) = IsDeck how names (string_bytes name)
IsUnread how size names (fault.Unloaded why) = how ≡ start.LoadKey
IsUnread how size names (fault.Stopped ending) = ⊥
IsUnread how size names (fault.Source why) = how ≡ start.Entry
IsUnread how size names (fault.Image why) = how ≡ start.Entry
IsUnread how size names (fault.Reel name why) = ⊥
IsUnread how size names (fault.Exists name) = ⊥
IsUnread how size names (fault.Replaced name beside) = ⊥
IsUnread how size names fault.Memory = ⊤

-- the names of the files that a run writes, each if there is one; and its reels, of which some are read and written
pub record WrittenNames : Type 0 where
  pub paper : Option (List ℕ)
  pub punch : Option (List ℕ)
  pub trace : Option (List ℕ)
  pub image : Option (List ℕ)
  pub reels : List MountedReel

abbrev pub written_names : Option (List ℕ) → Option (List ℕ) → Option (List ℕ) → Option (List ℕ) → List MountedReel
    → WrittenNames
written_names paper punch trace image reels =
    record { paper = paper; punch = punch; trace = trace; image = image; reels = reels }

-- a file that isn't written is one of them
abbrev pub IsWrittenName : WrittenNames → List ℕ → Type 0
IsWrittenName names name =
    (names.paper ≡ Some name)
    ⊎ ((names.punch ≡ Some name)
    ⊎ ((names.trace ≡ Some name) ⊎ ((names.image ≡ Some name) ⊎ IsWrittenReel names.reels name)))

-- a file of a run isn't written, if there is one of this name
abbrev pub IsUnwrittenFile : Option (List ℕ) → RunFault → Type 0
IsUnwrittenFile file why = (name : List ℕ) × (file ≡ Some name) × IsNotPut name why

-- a deck isn't loaded
abbrev pub IsUnloaded : RunFault → Type 0
IsUnloaded why = (why ≡ fault.Memory) ⊎ ((cause : LoadFault) × (why ≡ fault.Unloaded cause))

-- how a run fails that has begun: what isn't written, a new reel whose file is there, a reel whose file has become
-- another, or a stop that is no halt
abbrev pub IsOfRun : WrittenNames → RunFault → Type 0
IsOfRun names fault.Output = ⊤
IsOfRun names fault.Size = ⊥
IsOfRun names (fault.File name why) = ⊥
IsOfRun names (fault.Unwritten name) = IsWrittenName names (string_bytes name)
IsOfRun names (fault.OneFile first second) = ⊥
IsOfRun names (fault.Deck name why) = ⊥
IsOfRun names (fault.Unloaded why) = ⊥
IsOfRun names (fault.Stopped ending) = ending.report.stop ≢ stop.Halt
IsOfRun names (fault.Source why) = ⊥
IsOfRun names (fault.Image why) = ⊥
IsOfRun names (fault.Reel name why) = ⊥
IsOfRun names (fault.Exists name) = IsNewReel names.reels (string_bytes name)
IsOfRun names (fault.Replaced name beside) = IsRingedReel names.reels (string_bytes name)
IsOfRun names fault.Memory = ⊤

-- the names of the files that a job reads, and of those that it writes
abbrev pub inputs_of : Job → InputNames
inputs_of job = input_names (string_bytes job.file) (option_map string_bytes job.cards)

abbrev pub written_of : Job → WrittenNames
written_of job = written_names (option_map string_bytes job.paper) (option_map string_bytes job.punch)
    (option_map string_bytes job.trace) (option_map string_bytes job.image) job.reels.items

-- a file that is read or written
abbrev pub IsName : InputNames → WrittenNames → List ℕ → Type 0
IsName inputs outputs name = IsInput inputs name ⊎ (IsReadReel outputs.reels name ⊎ IsWrittenName outputs name)

-- why names are refused: two of them lead to one file, the second one of a file that is written
abbrev pub IsOneFile : InputNames → WrittenNames → RunFault → Type 0
IsOneFile inputs outputs fault.Output = ⊥
IsOneFile inputs outputs fault.Size = ⊥
IsOneFile inputs outputs (fault.File name why) = ⊥
IsOneFile inputs outputs (fault.Unwritten name) = ⊥
IsOneFile inputs outputs (fault.OneFile first second) =
    IsName inputs outputs (string_bytes first) × IsWrittenName outputs (string_bytes second)
IsOneFile inputs outputs (fault.Deck name why) = ⊥
IsOneFile inputs outputs (fault.Unloaded why) = ⊥
IsOneFile inputs outputs (fault.Stopped ending) = ⊥
IsOneFile inputs outputs (fault.Source why) = ⊥
IsOneFile inputs outputs (fault.Image why) = ⊥
IsOneFile inputs outputs (fault.Reel name why) = ⊥
IsOneFile inputs outputs (fault.Exists name) = ⊥
IsOneFile inputs outputs (fault.Replaced name beside) = ⊥
IsOneFile inputs outputs fault.Memory = ⊤

-- what a run of files fails by
abbrev pub IsFaultOf : Job → RunFault → Type 0
IsFaultOf job why =
    IsUnread job.start job.size (inputs_of job) why
    ⊎ (IsUnmounted job.reels.items why
    ⊎ (IsOneFile (inputs_of job) (written_of job) why ⊎ IsOfRun (written_of job) why))
