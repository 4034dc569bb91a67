-- All cells but those that are left.
use Rattle.std.proofs.Common.{drop, map}
use Rattle.bytes_text.specs.Written.{AddsBut}
use Rattle.autocoder_deck.specs.Card.{graphic_of}
use Rattle.autocoder_deck.proofs.cards.put_graphics.Given as goal

abbrev pub invariant-loop-cell : goal.invariant-loop-cell
invariant-loop-cell l =
    AddsBut l.initial.text l.text (map graphic_of (drop l.cell-index l.cells)) (map graphic_of l.cells)
