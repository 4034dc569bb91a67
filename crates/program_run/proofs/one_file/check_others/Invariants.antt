-- A name of a reel that is left is one of these reels.
use Rattle.std.proofs.Common.{ℕ, List, ◌∷◌, length}
use Rattle.program_run.specs.RunReels.{IsReadReel, IsWrittenReel}
use Rattle.program_run.proofs.one_file.check_others.Given as goal

abbrev pub invariant-loop-rest : goal.invariant-loop-rest
invariant-loop-rest g l = record {
  read : (name : List ℕ) → IsReadReel (l.first ∷ l.rest) name → IsReadReel (l.first ∷ l.others) name;
  written : (name : List ℕ) → IsWrittenReel (l.first ∷ l.rest) name → IsWrittenReel (l.first ∷ l.others) name;
}

abbrev pub decreases-loop-rest : goal.decreases-loop-rest
decreases-loop-rest g l = length l.rest
