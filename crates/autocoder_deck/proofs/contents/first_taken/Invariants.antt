-- The cells so far are blank.
use Rattle.std.proofs.Common.{◌≡◌, drop}
use Rattle.autocoder_deck.specs.Contents.{first_from}
use Rattle.autocoder_deck.proofs.contents.first_taken.Given as goal

abbrev pub invariant-loop-cell : goal.invariant-loop-cell
invariant-loop-cell l = record {
  at : l.at ≡ l.cell-index;
  first : first_from l.at (drop l.cell-index l.cells) ≡ first_from 0 l.cells;
}
