-- Each call has three cells fewer.
use Rattle.std.proofs.Common.{length}
use Rattle.autocoder_deck.proofs.written_again.+d_in.Given as goal

abbrev pub decreases-d_in : goal.decreases-d_in
decreases-d_in l = length l.beyond.now
