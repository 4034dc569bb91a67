-- None of the pairs passed differs, so the highest difference is one of those left.
use Rattle.std.proofs.Common.{◌≡◌, ◌-◌}
use Rattle.fields_1401.specs.Compare.{highest_difference}
use Rattle.fields_1401.proofs.comparison.highest_of_few.Given as goal

abbrev pub invariant-loop-beyond : goal.invariant-loop-beyond
invariant-loop-beyond l =
    highest_difference l.core l.fn.a l.fn.b (l.fn.n - l.beyond) ≡ highest_difference l.core l.fn.a l.fn.b l.fn.n
