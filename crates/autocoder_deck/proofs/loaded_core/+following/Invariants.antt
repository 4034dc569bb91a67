-- Each call has room for one cell fewer.
use Rattle.autocoder_deck.proofs.loaded_core.+following.Given as goal

abbrev pub decreases-following : goal.decreases-following
decreases-following l = l.room
