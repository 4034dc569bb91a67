-- Fewer sizes are left.
use Rattle.std.proofs.Common.{length}
use Rattle.room_files.proofs.reading.+split_header.Given as goal

abbrev pub decreases-split_header : goal.decreases-split_header
decreases-split_header l = length l.sizes.now
