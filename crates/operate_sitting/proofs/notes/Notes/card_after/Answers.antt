-- A card that is left is one of the deck.
use Rattle.std.proofs.Common.{◌≡◌, ◌+◌, List, length, ◌∙◌, ap, sym, arith}
use Rattle.std.proofs.lemmas.List.{length-drop}
use Rattle.std.specs.List.{slice_get}
use Rattle.devices_1401.specs.declared.card.Card.{Card}
use Rattle.operate_sitting.specs.Notes.{Noted}
use Rattle.operate_sitting.proofs.NotesLemmas.{left_at}
use Rattle.operate_sitting.proofs.notes.Notes.card_after.Goals as goal

pub overflow_add-count : goal.overflow_add-count
overflow_add-count c =
    let deck : List Card = c.args.self.now.deck in
    let same : length c.self.inside.deck ≡ length deck = ap (λ (it : Noted). length it.deck) c.self.view_is in
    omega (arith, c.requires, length-drop c.args.count deck, same, c.len.ensures, c.len.type_inv)

pub returns-clause-card : goal.returns-clause-card
returns-clause-card c =
    left_at c.args.count c.args.self.now.deck c.args.at
    ∙ ap (λ (it : Noted). slice_get it.deck (c.args.count + c.args.at)) (sym c.self.view_is)
    ∙ c.card.ensures.card
