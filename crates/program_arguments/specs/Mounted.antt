-- The file of a reel that is mounted before a job, and its ring (own).
use Rattle.std.specs.Prelude.{ℕ, Bool, true, false, List, Option, None, Some, string_bytes}
use Rattle.program_arguments.specs.declared.call.ReelSource.{ReelSource}
use Rattle.program_arguments.specs.declared.call.ReelSource.TheVariants as reel

-- the name of the file that has the reel or gets it
abbrev pub file_of : ReelSource → Option (List ℕ)
file_of (reel.File name) = Some (string_bytes name)
file_of (reel.Ringed name) = Some (string_bytes name)
file_of (reel.New name) = Some (string_bytes name)
file_of reel.Scratch = None

abbrev pub has_ring : ReelSource → Bool
has_ring (reel.File name) = false
has_ring (reel.Ringed name) = true
has_ring (reel.New name) = true
has_ring reel.Scratch = true
