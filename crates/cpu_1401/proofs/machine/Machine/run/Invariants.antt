-- What was carried out and what is left make the run, and the size stays.
use Rattle.std.proofs.Common.{◌≡◌, ◌-◌, ◌≤◌, length}
use Rattle.cpu_1401.proofs.RunLemmas.{SoFar}
use Rattle.cpu_1401.proofs.machine.Machine.run.Given as goal

abbrev pub invariant-loop-left : goal.invariant-loop-left
invariant-loop-left l =
    record {
      run : SoFar l.initial.limit l.initial.self l.self (l.initial.limit - l.left);
      size : length l.self.storage
          ≡ length l.initial.self.storage;
      most : l.left ≤ l.initial.limit;
    }

abbrev pub decreases-loop-left : goal.decreases-loop-left
decreases-loop-left l = l.left
