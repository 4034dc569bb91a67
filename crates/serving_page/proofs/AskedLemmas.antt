-- The fields of a query, one cut off after the other.
use Rattle.std.proofs.Common.{◌≡◌, ℕ, List, ◌∷◌, Option, None, length, sym, ap, refl, ◌∙◌, inl, inr}
use Rattle.std.proofs.lemmas.Bool.{cases_lt}
use Rattle.std.specs.List.{position_or_len}
use Rattle.serving_page.specs.declared.asked.Asked.{Asked}
use Rattle.serving_page.specs.Asked.{ampersand, asked_by, asked_by_fields, fields_of}
use Rattle.serving_page.specs.Pieces.{is_byte}
use Rattle.serving_page.proofs.PiecesLemmas.{first_piece, last_piece}

-- a fourth field is one too many
pub too_many : (core paper after rest : List ℕ) → asked_by_fields (core ∷ paper ∷ after ∷ fields_of rest) ≡ None
too_many core paper after rest =
    let len : ℕ = position_or_len (is_byte ampersand) rest in
    let asked : List (List ℕ) → Option Asked = λ fields. asked_by_fields (core ∷ paper ∷ after ∷ fields) in
    elim (cases_lt len (length rest)) [
      | inl within ↦ ap asked (first_piece ampersand rest len refl within)
      | inr all ↦ ap asked (last_piece ampersand rest len refl all)
    ]

-- a query of more than three fields, which are cut off one after the other
pub refused : (query core paper after beyond_core beyond_paper rest : List ℕ)
    → fields_of query ≡ core ∷ fields_of beyond_core
    → fields_of beyond_core ≡ paper ∷ fields_of beyond_paper
    → fields_of beyond_paper ≡ after ∷ fields_of rest → None ≡ asked_by query
unfolding asked_by
refused query core paper after beyond_core beyond_paper rest first second third =
    let all : fields_of query ≡ core ∷ paper ∷ after ∷ fields_of rest =
    first
    ∙ ap (λ (fields : List (List ℕ)). core ∷ fields) second
    ∙ ap (λ (fields : List (List ℕ)). core ∷ paper ∷ fields) third in
    sym (ap asked_by_fields all ∙ too_many core paper after rest)
