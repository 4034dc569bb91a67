-- A file that a reel is written to that is left is one of the reels.
use Rattle.std.proofs.Common.{ℕ, List, length}
use Rattle.program_run.specs.RunReels.{IsWrittenReel}
use Rattle.program_run.proofs.outputs.check_reels.Given as goal

abbrev pub invariant-loop-rest : goal.invariant-loop-rest
invariant-loop-rest g l = record {
  written : (name : List ℕ) → IsWrittenReel l.rest name → IsWrittenReel l.job.reels.items name;
}

abbrev pub decreases-loop-rest : goal.decreases-loop-rest
decreases-loop-rest g l = length l.rest
