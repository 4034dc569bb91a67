-- The cards so far, and those of the lines that are left after them, are the deck.
use Rattle.std.proofs.Common.{◌≡◌, ◌+◌, length}
use Rattle.autocoder_statements.specs.SourceLine.{lines_of}
use Rattle.job_runner.specs.CardList.{AreOfCards, cards_in}
use Rattle.job_runner.specs.DeckText.{deck_from, deck_of}
use Rattle.job_runner.proofs.DeckTextLemmas.{beyond}
use Rattle.job_runner.proofs.deck_text.read_deck.Given as goal

abbrev pub invariant-loop-line : goal.invariant-loop-line
invariant-loop-line l = record {
  deck : deck_of l.text
      ≡ beyond (cards_in l.lens.items l.chars.items) (deck_from (length l.lens.items + 1) (lines_of l.rest));
  count : length l.lens.items + length (lines_of l.rest) ≡ length (lines_of l.text);
  held : AreOfCards l.lens.items l.chars.items;
}

abbrev pub decreases-loop-line : goal.decreases-loop-line
decreases-loop-line l = length l.rest
