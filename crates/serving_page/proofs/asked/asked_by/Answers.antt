-- A query with a fourth field is refused.
use Rattle.std.proofs.Common.{ℕ, List, ◌∷◌, Option, Bor, ap, ◌∙◌}
use Rattle.std.specs.Prelude.{option_copied}
use Rattle.serving_page.specs.Asked.{ampersand}
use Rattle.serving_page.specs.Pieces.{pieces_in}
use Rattle.serving_page.proofs.AskedLemmas.{refused}
use Rattle.serving_page.proofs.asked.asked_by.Goals as goal

pub returns-in_default-Some : goal.returns-in_default-Some
returns-in_default-Some c =
    let fields = λ (first : List ℕ) (rest : Option (Bor (List ℕ))). first ∷ pieces_in ampersand (option_copied rest) in
    let core = c.cut_piece.result.0.now in
    let paper = c.cut_piece-2.result.0.now in
    let after = c.cut_piece-3.result.0.now in
    refused c.args.query.now core paper after c.in_ok-rest.field-0.now c.in-Some.rest.now c.in_default-Some.field-0-1.now
    (c.cut_piece.ensures.pieces ∙ ap (fields core) c.in_ok-rest.was)
    (c.cut_piece-2.ensures.pieces ∙ ap (fields paper) c.in-Some.is)
    (c.cut_piece-3.ensures.pieces ∙ ap (fields after) c.in_default-Some.is-1)
