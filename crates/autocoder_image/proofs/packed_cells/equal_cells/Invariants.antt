-- The cells so far are equal.
use Rattle.std.proofs.Common.{◌≡◌, ◌<◌, take, replicate}
use Rattle.autocoder_image.proofs.packed_cells.equal_cells.Given as goal

abbrev pub invariant-loop-next : goal.invariant-loop-next
invariant-loop-next l = record {
  count : l.count ≡ l.next-index;
  equal : take l.next-index l.cells ≡ replicate l.next-index l.cell;
  less : l.count < 65535;
}
