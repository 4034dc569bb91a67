-- The seats grow fewer.
use Rattle.std.proofs.Common.{length}
use Rattle.room_1401.proofs.closing.+is_there.Given as goal

abbrev pub decreases-is_there : goal.decreases-is_there
decreases-is_there g l = length l.seats.now
