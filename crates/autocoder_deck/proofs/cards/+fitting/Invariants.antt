-- Each call has one cell less.
use Rattle.std.proofs.Common.{length}
use Rattle.autocoder_deck.proofs.cards.+fitting.Given as goal

abbrev pub decreases-fitting : goal.decreases-fitting
decreases-fitting l = length l.cells.now
