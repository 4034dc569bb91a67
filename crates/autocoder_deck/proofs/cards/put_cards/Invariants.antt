-- All cards but those of the cells that are left.
use Rattle.std.proofs.Common.{◌≡◌, ◌+◌, length}
use Rattle.bytes_text.specs.Written.{AddsBut}
use Rattle.autocoder_deck.specs.Card.{HaveChars, cards_from, cards_text}
use Rattle.autocoder_deck.proofs.cards.put_cards.Given as goal

abbrev pub invariant-loop-rest : goal.invariant-loop-rest
invariant-loop-rest l = record {
  text : AddsBut l.initial.text l.text (cards_text (cards_from l.covered l.at l.rest))
      (cards_text (cards_from 0 l.from l.cells));
  chars : HaveChars l.rest → HaveChars l.cells;
  places : l.at + length l.rest ≡ l.from + length l.cells;
}

abbrev pub decreases-loop-rest : goal.decreases-loop-rest
decreases-loop-rest l = length l.rest
