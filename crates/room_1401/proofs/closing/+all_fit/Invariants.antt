-- The seats grow fewer.
use Rattle.std.proofs.Common.{length}
use Rattle.room_1401.proofs.closing.+all_fit.Given as goal

abbrev pub decreases-all_fit : goal.decreases-all_fit
decreases-all_fit g l = length l.seats.now
