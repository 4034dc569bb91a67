-- What is handed over so far, with what is left, is all; a fault is one of the reels so far, and one of those that are
-- left is one of them all.
use Rattle.std.proofs.Common.{◌≡◌, List, Option, length}
use Rattle.std.specs.Prelude.{IfErr, OnOk}
use Rattle.program_run.specs.RunReels.{IsUnwrittenReel}
use Rattle.program_run.specs.WrittenReels.{AreHandedOver, HandsOver, ReelFile, files_of}
use Rattle.program_run.specs.declared.fault.RunFault.{RunFault}
use Rattle.program_run.proofs.reels.write_reels.Given as goal

abbrev pub invariant-loop-rest : goal.invariant-loop-rest
invariant-loop-rest g l = record {
  whole : OnOk l.outcome ((new : Option (List ReelFile))
      → HandsOver (g.D.ReelFiles.handed l.files) new (files_of l.tapes l.rest)
      → HandsOver (g.D.ReelFiles.handed l.fn.files) new (files_of l.tapes l.reels));
  handed : (new : Option (List ReelFile)) → AreHandedOver l.tapes l.rest (g.D.ReelFiles.handed l.files) new
      → AreHandedOver l.tapes l.reels (g.D.ReelFiles.handed l.fn.files) new;
  given : g.D.ReelFiles.given l.files ≡ g.D.ReelFiles.given l.fn.files;
  so_far : IfErr l.outcome (IsUnwrittenReel l.reels);
  faults : (why : RunFault) → IsUnwrittenReel l.rest why → IsUnwrittenReel l.reels why;
}

abbrev pub decreases-loop-rest : goal.decreases-loop-rest
decreases-loop-rest g l = length l.rest
