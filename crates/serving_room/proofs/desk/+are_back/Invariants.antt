-- The places grow fewer.
use Rattle.std.proofs.Common.{length}
use Rattle.serving_room.proofs.desk.+are_back.Given as goal

abbrev pub decreases-are_back : goal.decreases-are_back
decreases-are_back g l = length l.places.now
