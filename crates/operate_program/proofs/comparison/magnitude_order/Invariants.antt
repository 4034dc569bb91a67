-- How the digits so far compare, from the highest down.
use Rattle.std.proofs.Common.{◌≡◌, drop, reverse}
use Rattle.std.specs.Ordering.{nat_cmp}
use Rattle.fields_1401.specs.Number.{magnitude_of, places_down}
use Rattle.operate_program.proofs.ComparisonLemmas.{value_up}
use Rattle.operate_program.proofs.comparison.magnitude_order.Given as goal

abbrev pub invariant-loop-left : goal.invariant-loop-left
invariant-loop-left l =
    l.order ≡ nat_cmp (magnitude_of (drop l.left (places_down l.core l.at l.len)))
    (value_up (drop l.left (reverse l.digits)))

abbrev pub decreases-loop-left : goal.decreases-loop-left
decreases-loop-left l = l.left
