-- The instructions of all cells but those that are left.
use Rattle.std.proofs.Common.{◌≡◌, ◌+◌, length, drop}
use Rattle.std.specs.List.{flat_map}
use Rattle.bytes_text.specs.Written.{AddsBut}
use Rattle.autocoder_deck.specs.Card.{marked_places, mark_text}
use Rattle.autocoder_deck.proofs.cards.put_marks.Given as goal

abbrev pub invariant-loop-cell : goal.invariant-loop-cell
invariant-loop-cell l = record {
  at : l.at ≡ l.from + l.cell-index;
  count : l.count + length (marked_places l.at (drop l.cell-index l.cells)) ≡ length (marked_places l.from l.cells);
  text : AddsBut l.initial.text l.text (flat_map mark_text (marked_places l.at (drop l.cell-index l.cells)))
      (flat_map mark_text (marked_places l.from l.cells));
}
