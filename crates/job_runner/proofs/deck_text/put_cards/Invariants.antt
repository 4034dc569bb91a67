-- What is added, with the cards that are left added after it, is all of it.
use Rattle.std.proofs.Common.{◌≡◌, ◌++◌, drop}
use Rattle.std.specs.List.{flat_map}
use Rattle.job_runner.specs.DeckText.{card_text}
use Rattle.job_runner.proofs.deck_text.put_cards.Given as goal

abbrev pub invariant-loop-card : goal.invariant-loop-card
invariant-loop-card l =
    l.text.items ++ flat_map card_text (drop l.card-index l.cards) ≡ l.initial.text.items ++ flat_map card_text l.cards
