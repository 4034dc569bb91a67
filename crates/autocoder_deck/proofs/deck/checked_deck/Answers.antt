-- The deck of storage loads itself: nothing is under its cards, and the cells after that are characters.
use Rattle.std.proofs.Common.{rules, ◌≡◌, ℕ, List, None, drop, length, subst, sym}
use Rattle.autocoder_deck.specs.Card.{HaveChars}
use Rattle.autocoder_deck.specs.Contents.{card_places, first_taken}
use Rattle.autocoder_deck.specs.Deck.{storage_deck}
use Rattle.autocoder_deck.specs.Loading.{LoadsItself}
use Rattle.autocoder_deck.proofs.LoadsItselfLemmas.{loads_itself}
use Rattle.autocoder_deck.proofs.deck.checked_deck.Goals as goal

pub returns-in-Ok-clause-loads : goal.returns-in-Ok-clause-loads
returns-in-Ok-clause-loads c =
    let storage = c.args.storage.now in
    let text : c.in-Ok.text.items ≡ storage_deck storage c.args.start = search rules in
    let none : first_taken storage ≡ None = search rules in
    let chars : HaveChars (drop card_places storage) = subst HaveChars c.split_at.ensures.back c.in-Ok.ensures.chars in
    subst (λ (each : List ℕ). LoadsItself each (length storage) storage c.args.start) (sym text)
    (loads_itself c.fitting_law.ensures storage c.args.start c.requires.core none c.requires.start chars)
