-- What is left stays; nothing is left of a block before another is begun.
use Rattle.std.proofs.Common.{◌≡◌, [], length}
use Rattle.autocoder_image.specs.Left.{cells_left}
use Rattle.autocoder_image.proofs.cells_left.CellsLeft.begin_block.Given as goal

abbrev pub invariant-loop-self : goal.invariant-loop-self
invariant-loop-self l = record {
  cells : cells_left l.self ≡ cells_left l.initial.self;
  done : l.self.count ≡ 0 → (l.self.rest.now ≡ []) × (l.self.times ≡ 0);
}

abbrev pub decreases-loop-self : goal.decreases-loop-self
decreases-loop-self l = length l.self.blocks.now
