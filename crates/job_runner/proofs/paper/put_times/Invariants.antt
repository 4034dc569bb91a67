-- As many bytes are added as are counted.
use Rattle.std.proofs.Common.{◌≡◌, ◌≤◌, ◌-◌, ◌++◌, replicate}
use Rattle.job_runner.proofs.paper.put_times.Given as goal

abbrev pub invariant-loop-done : goal.invariant-loop-done
invariant-loop-done l =
    (l.text.items ≡ l.initial.text.items ++ replicate l.done l.byte) × (l.done ≤ l.count)

abbrev pub decreases-loop-done : goal.decreases-loop-done
decreases-loop-done l = l.count - l.done
