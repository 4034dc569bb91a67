-- Whether the assembler makes the cells of an instruction again, computed.
use Rattle.std.proofs.Common.{◌≡◌, ◌==◌, ℕ, true, false, List, [], ◌∷◌, map, replicate, refl}
use Rattle.std.specs.Prelude.{Bool, codes, unwrap_or, position}
use Rattle.bcd_1401.specs.Graphic.{graphics}
use Rattle.bcd_1401.specs.declared.cell.Cell.{Cell}
use Rattle.autocoder_deck.specs.WrittenAgain.{is_written_again}

-- the cells with these graphics, the first with a word mark
cells : List ℕ → List Cell
unfolding graphics
cells [] = []
cells (first ∷ more) = cell true first ∷ map (cell false) more
  where
    cell : Bool → ℕ → Cell
    cell mark graphic = record { char = unwrap_or (position (λ each. each == graphic) graphics) 0; mark = mark }

-- whether the assembler makes them again
again : List (List ℕ) → List Bool
unfolding graphics cells
again texts = map (λ each. is_written_again (cells each)) texts

these_are : again (codes "2" ∷ codes "2)" ∷ codes "2500" ∷ codes "2500)" ∷ codes "N" ∷ codes "N500" ∷ codes "N500600"
    ∷ codes "N500600X" ∷ codes "K5004" ∷ codes "QI9I" ∷ [])
    ≡ replicate 10 true
unfolding again
these_are = refl

-- a write with another d-character, a no operation of two characters more, an address with a blank in it
these_are_not : again (codes "28" ∷ codes "2500S" ∷ codes "NAB" ∷ codes "N5006" ∷ codes "SMITH J" ∷ codes "A 12" ∷ [])
    ≡ replicate 6 false
unfolding again
these_are_not = refl
