-- The text of the cards so far, with that of the records left, is the whole.
use Rattle.std.proofs.Common.{◌≡◌, ◌≤◌, ◌+◌, length}
use Rattle.machine_tapes.specs.Reel.{most_characters}
use Rattle.program_convert.specs.Decks.{cards_from, reel_deck_text, text_after}
use Rattle.program_convert.proofs.decks.records_deck.Given as goal

abbrev pub invariant-loop-first : goal.invariant-loop-first
invariant-loop-first l = record {
  deck : text_after l.text.items (cards_from l.parity l.number l.rest) ≡ reel_deck_text l.parity l.records;
  few : l.number + length l.rest ≤ most_characters + 1;
}

abbrev pub decreases-loop-first : goal.decreases-loop-first
decreases-loop-first l = length l.rest
