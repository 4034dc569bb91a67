-- Each call has three cells fewer.
use Rattle.std.proofs.Common.{length}
use Rattle.autocoder_deck.proofs.written_again.+is_spelled.Given as goal

abbrev pub decreases-is_spelled : goal.decreases-is_spelled
decreases-is_spelled l = length l.beyond.now
