-- The line fits in its room.
use Rattle.std.proofs.Common.{arith}
use Rattle.machine_image.proofs.LengthLemmas.{header_few}
use Rattle.autocoder_image.proofs.image_pages.make_header.Goals as goal

pub unreachable-requires : goal.unreachable-requires
unreachable-requires c =
    omega (
      arith,
      c.in-Err.ensures.full,
      c.clear.ensures.len,
      c.clear.ensures.capacity,
      c.requires,
      header_few c.args.size (omega arith),
    )
