-- What was written, what isn't yet, and the records of the cards left, make the whole.
use Rattle.std.proofs.Common.{◌≡◌, ◌≤◌, ◌++◌, true, length, map, vec_capacity}
use Rattle.std.specs.List.{list_all}
use Rattle.bytes_streams.specs.Page.{Sent}
use Rattle.machine_tapes.specs.Held.{is_record}
use Rattle.machine_tapes.specs.TapText.{tap_text}
use Rattle.program_convert.specs.Decks.{are_whole, card_record}
use Rattle.program_convert.proofs.reels.put_deck.Given as goal

abbrev pub invariant-loop-card : goal.invariant-loop-card
invariant-loop-card g l = record {
  sent : Sent (g.W.Sink.received l.initial.writer) (g.W.Sink.received l.writer)
      (l.initial.page.items ++ tap_text (map (card_record l.parity) l.cards))
      (l.page.items ++ tap_text (map (card_record l.parity) l.deck));
  good : list_all is_record (map (card_record l.parity) l.deck) ≡ true
      → list_all is_record (map (card_record l.parity) l.cards) ≡ true;
  whole : are_whole l.deck ≡ true → are_whole l.cards ≡ true;
  capacity : vec_capacity l.initial.page ≤ vec_capacity l.page;
}

abbrev pub decreases-loop-card : goal.decreases-loop-card
decreases-loop-card g l = length l.deck
