-- The characters were copied in front of blanks.
use Rattle.std.proofs.Common.{List, ◌++◌, ◌∙◌, ap, drop, length, replicate, ℕ}
use Rattle.std.proofs.lemmas.List.{drop-replicate}
use Rattle.devices_1401.specs.declared.card.Card.{Card}
use Rattle.job_runner.proofs.deck.card_of_chars.Goals as goal

pub returns : goal.returns
returns c =
    let chars : List ℕ = c.args.chars.now in
    ap (λ (front : List ℕ). let card : Card = record { 0 = front ++ drop (length chars) (replicate 80 0) } in card)
    c.copy_from_slice.ensures.after
    ∙ ap (λ (rest : List ℕ). let card : Card = record { 0 = chars ++ rest } in card)
    (drop-replicate (length chars) 80 0)
