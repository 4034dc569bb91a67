-- The pairs passed agree, so the highest difference is one of those left.
use Rattle.std.proofs.Common.{◌≡◌, ◌≤◌}
use Rattle.fields_1401.specs.Compare.{highest_difference}
use Rattle.fields_1401.proofs.comparison.left_to_compare.Given as goal

abbrev pub invariant-loop-left : goal.invariant-loop-left
invariant-loop-left l = record {
  most : l.left ≤ l.n;
  kept : highest_difference l.core l.a l.b l.left ≡ highest_difference l.core l.a l.b l.n;
}

abbrev pub decreases-loop-left : goal.decreases-loop-left
decreases-loop-left l = l.left
