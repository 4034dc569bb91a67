-- All cards but those that are left.
use Rattle.std.proofs.Common.{drop}
use Rattle.std.specs.List.{flat_map}
use Rattle.bytes_text.specs.Written.{AddsBut}
use Rattle.operate_views.specs.Cards.{card_text}
use Rattle.operate_views.proofs.cards.put_cards.Given as goal

abbrev pub invariant-loop-card : goal.invariant-loop-card
invariant-loop-card l =
    AddsBut l.initial.text l.text (flat_map card_text (drop l.card-index l.cards)) (flat_map card_text l.cards)
