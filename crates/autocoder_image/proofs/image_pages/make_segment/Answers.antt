-- The line fits in its room: it has 40 cells at most.
use Rattle.std.proofs.Common.{arith}
use Rattle.machine_image.proofs.LengthLemmas.{segment_few}
use Rattle.autocoder_image.proofs.image_pages.make_segment.Goals as goal

pub unreachable-requires : goal.unreachable-requires
unreachable-requires c =
    omega (
      arith,
      c.in-Err.ensures.full,
      c.clear.ensures.len,
      c.clear.ensures.capacity,
      c.requires,
      segment_few c.args.segment.now (omega arith) c.as_slice-cells.ensures.most,
    )
