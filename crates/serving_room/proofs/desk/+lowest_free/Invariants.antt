-- The places grow fewer.
use Rattle.std.proofs.Common.{length}
use Rattle.serving_room.proofs.desk.+lowest_free.Given as goal

abbrev pub decreases-lowest_free : goal.decreases-lowest_free
decreases-lowest_free g l = length l.places.now
