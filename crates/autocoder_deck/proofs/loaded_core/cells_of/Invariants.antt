-- The cells so far are those below the next address.
use Rattle.std.proofs.Common.{◌≡◌, take}
use Rattle.autocoder_deck.proofs.loaded_core.cells_of.Given as goal

abbrev pub invariant-loop-at : goal.invariant-loop-at
invariant-loop-at l = l.cells.items ≡ take l.at l.core
