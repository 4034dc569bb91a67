-- No cell goes on with the segment, or it is full.
use Rattle.std.proofs.Common.{◌≡◌, length, take, sym, ◌∙◌, arith}
use Rattle.std.proofs.lemmas.List.{length-take-le}
use Rattle.autocoder_image.specs.Left.{cells_left}
use Rattle.autocoder_image.proofs.SegmentLemmas.{parted_when_full}
use Rattle.autocoder_image.proofs.segments_left.fill.Goals as goal

pub returns-in_default-clause-cut : goal.returns-in_default-clause-cut
returns-in_default-clause-cut c =
    let at = c.loop-count in
    let many : length (take at.count at.held) ≡ at.count =
    omega (arith, length-take-le at.count at.held, at.invariant.room, at.invariant.few) in
    sym (c.in_default.ensures c.args.address (take at.count at.held) (omega (arith, many, c.from.ensures))
    (omega (arith, many, at.invariant.some))) ∙ at.invariant.cut

pub returns-clause-cut : goal.returns-clause-cut
returns-clause-cut c =
    let at = c.loop-count in
    let many : length (take at.count at.held) ≡ 40 =
    omega (arith, length-take-le at.count at.held, at.invariant.room, at.invariant.few, c.loop-count-test.false) in
    sym (parted_when_full c.args.address (take at.count at.held) (cells_left at.left) many) ∙ at.invariant.cut
