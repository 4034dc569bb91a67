-- The entries so far stay whole, and the others are cut alike.
use Rattle.std.proofs.Common.{◌≡◌, ◌+◌, drop}
use Rattle.operate_sitting.specs.Back.{part_in, whole_in}
use Rattle.operate_sitting.proofs.back.cut_after.Given as goal

abbrev pub invariant-loop-whole : goal.invariant-loop-whole
invariant-loop-whole l = record {
  whole : whole_in l.count l.journal ≡ l.whole + whole_in l.left (drop l.whole l.journal);
  part : part_in l.count l.journal ≡ part_in l.left (drop l.whole l.journal);
}
