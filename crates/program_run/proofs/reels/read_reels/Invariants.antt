-- What is mounted so far, with what is left, is all.
use Rattle.std.proofs.Common.{◌≡◌, List, Option, length}
use Rattle.machine_tapes.specs.Tapes.{Tapes, no_tapes}
use Rattle.program_run.specs.GivenReels.{GivenReel}
use Rattle.program_run.specs.RunReels.{AreMounted, IsUnmounted}
use Rattle.program_run.specs.declared.fault.RunFault.{RunFault}
use Rattle.program_run.proofs.reels.read_reels.Given as goal

abbrev pub invariant-loop-rest : goal.invariant-loop-rest
invariant-loop-rest g l = record {
  mounted : (given : Option (List GivenReel)) (tapes : Tapes)
      → AreMounted l.rest (g.D.ReelFiles.given l.files) given l.tapes tapes
      → AreMounted l.reels (g.D.ReelFiles.given l.fn.files) given no_tapes tapes;
  handed : g.D.ReelFiles.handed l.files ≡ g.D.ReelFiles.handed l.fn.files;
  faults : (why : RunFault) → IsUnmounted l.rest why → IsUnmounted l.reels why;
}

abbrev pub decreases-loop-rest : goal.decreases-loop-rest
decreases-loop-rest g l = length l.rest
