-- None of the places so far is filled.
use Rattle.std.proofs.Common.{◌≡◌}
use Rattle.autocoder_warnings.specs.Overlap.{first_filled}
use Rattle.autocoder_warnings.proofs.overlap.first_filled.Given as goal

abbrev pub invariant-loop-left : goal.invariant-loop-left
invariant-loop-left l =
    first_filled l.fillers l.at l.left ≡ first_filled l.fillers l.first l.count

abbrev pub decreases-loop-left : goal.decreases-loop-left
decreases-loop-left l = l.left
