-- The segment with the cells that it has so far, and those that are left, give what they give with its first cell.
use Rattle.std.proofs.Common.{◌≡◌, ◌≤◌, ◌-◌, length, take}
use Rattle.autocoder_placing.specs.Segments.{cut}
use Rattle.autocoder_image.specs.Left.{cells_left}
use Rattle.autocoder_image.specs.Packed.{ArePlaced}
use Rattle.autocoder_image.proofs.segments_left.fill.Given as goal

abbrev pub invariant-loop-count : goal.invariant-loop-count
invariant-loop-count l = record {
  cut : cut l.address (take l.count l.held) (cells_left l.left) ≡ cut l.address (take 1 l.initial.held) (cells_left l.first);
  some : 1 ≤ l.count;
  few : l.count ≤ 40;
  room : length l.held ≡ 40;
  placed : ArePlaced (cells_left l.left);
}

abbrev pub decreases-loop-count : goal.decreases-loop-count
decreases-loop-count l = 40 - l.count
