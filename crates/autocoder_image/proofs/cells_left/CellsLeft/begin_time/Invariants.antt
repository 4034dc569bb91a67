-- What is left stays, and so do the blocks; no part is left of a time before another is begun.
use Rattle.std.proofs.Common.{◌≡◌, []}
use Rattle.autocoder_image.specs.Left.{cells_left}
use Rattle.autocoder_image.proofs.cells_left.CellsLeft.begin_time.Given as goal

abbrev pub invariant-loop-self : goal.invariant-loop-self
invariant-loop-self l = record {
  cells : cells_left l.self ≡ cells_left l.initial.self;
  done : l.self.count ≡ 0 → l.self.rest.now ≡ [];
  blocks : l.self.blocks.now ≡ l.initial.self.blocks.now;
}

abbrev pub decreases-loop-self : goal.decreases-loop-self
decreases-loop-self l = l.self.times
