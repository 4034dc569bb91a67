-- What is left stays, and so do the blocks.
use Rattle.std.proofs.Common.{◌≡◌, length}
use Rattle.autocoder_image.specs.Left.{cells_left}
use Rattle.autocoder_image.proofs.cells_left.CellsLeft.begin_part.Given as goal

abbrev pub invariant-loop-self : goal.invariant-loop-self
invariant-loop-self l = record {
  cells : cells_left l.self ≡ cells_left l.initial.self;
  times : l.self.times ≡ l.initial.self.times;
  blocks : l.self.blocks.now ≡ l.initial.self.blocks.now;
}

abbrev pub decreases-loop-self : goal.decreases-loop-self
decreases-loop-self l = length l.self.rest.now
