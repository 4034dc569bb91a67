-- What was carried out and what is left make the search, and the size stays.
use Rattle.std.proofs.Common.{◌≡◌, ◌-◌, ◌≤◌, length}
use Rattle.operate_sitting.proofs.SearchLemmas.{SoFar}
use Rattle.operate_sitting.proofs.search.advance.Given as goal

abbrev pub invariant-loop-left : goal.invariant-loop-left
invariant-loop-left g l = record {
  search : SoFar g.row.T.Denot g.T.Test.seen g.T.Test.is_met l.initial.most l.initial.test l.initial.scout l.test
      l.scout (l.initial.most - l.left);
  size : length l.scout.storage ≡ length l.initial.scout.storage;
  most : l.left ≤ l.initial.most;
}

abbrev pub decreases-loop-left : goal.decreases-loop-left
decreases-loop-left g l = l.left
