-- The line fits in its room.
use Rattle.std.proofs.Common.{arith}
use Rattle.machine_image.proofs.LengthLemmas.{end_few}
use Rattle.autocoder_image.proofs.image_pages.make_end.Goals as goal

pub unreachable-requires : goal.unreachable-requires
unreachable-requires c =
    omega (
      arith,
      c.in-Err.ensures.full,
      c.clear.ensures.len,
      c.clear.ensures.capacity,
      c.requires,
      end_few c.args.start (omega arith),
    )
