-- What comes after the byte that parts it is the rest of the text.
use Rattle.std.proofs.Common.{ℕ, ◌+◌, ◌∷◌, List, ap, sym, ◌∙◌, take, arith}
use Rattle.std.proofs.lemmas.List.{take_rest}
use Rattle.serving_page.specs.Pieces.{pieces_of}
use Rattle.serving_page.proofs.PiecesLemmas.{first_piece}
use Rattle.serving_page.proofs.pieces.cut_piece.Goals as goal

pub returns-clause-pieces : goal.returns-clause-pieces
returns-clause-pieces c =
    let text = c.args.text.now in
    let len = c.first_len-len.result in
    first_piece c.args.parting text len c.first_len-len.ensures.value (omega arith)
    ∙ ap (λ (rest : List ℕ). take len text ∷ pieces_of c.args.parting rest) (sym (take_rest text (len + 1)))
