-- Which instructions the assembler has a word for, computed.
use Rattle.std.proofs.Common.{◌≡◌, ◌==◌, ℕ, true, false, List, [], ◌∷◌, map, replicate, refl}
use Rattle.std.specs.Prelude.{Bool, codes, unwrap_or, position}
use Rattle.bcd_1401.specs.Graphic.{graphics}
use Rattle.bcd_1401.specs.declared.cell.Cell.{Cell}
use Rattle.autocoder_statements.specs.Mnemonic.{instructions}
use Rattle.autocoder_deck.specs.Assembled.{has_word}

-- the cells with these graphics, the first with a word mark
cells : List ℕ → List Cell
unfolding graphics
cells [] = []
cells (first ∷ more) = cell true first ∷ map (cell false) more
  where
    cell : Bool → ℕ → Cell
    cell mark graphic = record { char = unwrap_or (position (λ each. each == graphic) graphics) 0; mark = mark }

-- whether the assembler has a word
words : List (List ℕ) → List Bool
unfolding graphics instructions cells
words instructions = map (λ each. has_word (cells each)) instructions

these_have_a_word : words (codes "M510509" ∷ codes "QI9I" ∷ codes "H0Z9" ∷ codes "B500Q" ∷ codes "2)" ∷ codes "F1"
    ∷ codes "N" ∷ [])
    ≡ replicate 7 true
unfolding words
these_have_a_word = refl

these_have_none : words (codes "M510 09" ∷ codes "K5001" ∷ codes "N50" ∷ codes "@500600" ∷ codes "2A"
    ∷ codes "B500600" ∷ [])
    ≡ replicate 6 false
unfolding words
these_have_none = refl
