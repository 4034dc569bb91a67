-- The places grow fewer.
use Rattle.std.proofs.Common.{length}
use Rattle.serving_room.proofs.desk.+put_taken.Given as goal

abbrev pub decreases-put_taken : goal.decreases-put_taken
decreases-put_taken g l = length l.places.now
