-- The greatest difference is above zero if one of the pairs so far, the lowest places first, differs.
use Rattle.std.proofs.Common.{◌≡◌, ◌-◌, nat_lt}
use Rattle.std.specs.List.{list_any, range_with_len}
use Rattle.core_1401.specs.Places.{are_unequal}
use Rattle.core_1401.proofs.block_ops.any_differ.Given as goal

abbrev pub invariant-loop-i : goal.invariant-loop-i
invariant-loop-i l = nat_lt 0 l.greatest ≡ list_any (are_unequal l.chars l.a l.b) (range_with_len (l.n - l.i) l.i)
