-- What was carried out and what is left make the run, and the size stays.
use Rattle.std.proofs.Common.{◌≡◌, length}
use Rattle.machine_tapes.proofs.RunLemmas.{SoFar}
use Rattle.machine_tapes.proofs.taped_machine.TapedMachine.run.Given as goal

abbrev pub invariant-loop-left : goal.invariant-loop-left
invariant-loop-left l =
    record {
      run : SoFar l.initial.limit l.initial.self l.self l.left;
      size : length l.self.machine.storage
          ≡ length l.initial.self.machine.storage;
    }

abbrev pub decreases-loop-left : goal.decreases-loop-left
decreases-loop-left l = l.left
