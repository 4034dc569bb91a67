-- The cells so far, from the high place down.
use Rattle.std.proofs.Common.{◌≡◌, ◌≤◌, drop, length, reverse}
use Rattle.operate_views.specs.Value.{filled}
use Rattle.operate_views.proofs.values.numbered_cells.Given as goal

abbrev pub invariant-loop-left : goal.invariant-loop-left
invariant-loop-left l = record {
  within : l.left ≤ length l.cells;
  put : l.put.items ≡ reverse (drop l.left (filled l.zone (reverse l.digits) l.cells));
}

abbrev pub decreases-loop-left : goal.decreases-loop-left
decreases-loop-left l = l.left
