-- A name of a reel that is left is one of the reels.
use Rattle.std.proofs.Common.{ℕ, List, length}
use Rattle.program_run.specs.RunReels.{IsReadReel, IsWrittenReel}
use Rattle.program_run.proofs.one_file.check_reels.Given as goal

abbrev pub invariant-loop-rest : goal.invariant-loop-rest
invariant-loop-rest g l = record {
  read : (name : List ℕ) → IsReadReel l.rest name → IsReadReel l.job.reels.items name;
  written : (name : List ℕ) → IsWrittenReel l.rest name → IsWrittenReel l.job.reels.items name;
}

abbrev pub decreases-loop-rest : goal.decreases-loop-rest
decreases-loop-rest g l = length l.rest
