-- The text without CARD is that of the card.
use Rattle.std.proofs.Common.{rules, ◌≡◌, ◌++◌, ◌∙◌, refl}
use Rattle.std.specs.Prelude.{codes}
use Rattle.machine_notation.specs.Characters.{graphics_of, trimmed}
use Rattle.console_text.proofs.CardTextLemmas.{fed_again}
use Rattle.console_text.proofs.answer_text.card_reply.Goals as goal

pub returns-clause-again : goal.returns-clause-again
returns-clause-again c =
    let card = c.args.card.now in
    let again = fed_again card (search rules) c.in_ok-put_characters.ensures.again in
    let text : c.put_characters.new.text.items ≡ codes "CARD " ++ graphics_of (trimmed card.0) =
    c.in_ok-put_characters.ensures.text ∙ rw c.in_ok-text.ensures.items refl in
    rw text again
