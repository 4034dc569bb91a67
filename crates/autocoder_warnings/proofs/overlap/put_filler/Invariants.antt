-- With the places that are left it is what is due.
use Rattle.std.proofs.Common.{◌≡◌}
use Rattle.autocoder_warnings.specs.Overlap.{with_filler}
use Rattle.autocoder_warnings.proofs.overlap.put_filler.Given as goal

abbrev pub invariant-loop-left : goal.invariant-loop-left
invariant-loop-left l =
    with_filler l.number l.at l.left l.fillers
    ≡ with_filler l.number l.first l.count l.initial.fillers

abbrev pub decreases-loop-left : goal.decreases-loop-left
decreases-loop-left l = l.left
