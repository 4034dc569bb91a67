-- Instructions and their texts, computed.
use Rattle.std.proofs.Common.{◌≡◌, ◌==◌, ℕ, true, false, List, [], ◌∷◌, map, refl}
use Rattle.std.specs.Fmt.{digits}
use Rattle.std.specs.Prelude.{Bool, codes, unwrap_or, position}
use Rattle.bcd_1401.specs.Graphic.{graphics}
use Rattle.bcd_1401.specs.declared.cell.Cell.{Cell}
use Rattle.machine_notation.specs.InstructionText.{operands_text, instruction_text}
use Rattle.machine_notation.specs.Mnemonic.{columns_of, operations_with_d}

-- the cells with these graphics, the first with a word mark
cells : List ℕ → List Cell
unfolding graphics
cells [] = []
cells (first ∷ more) = cell true first ∷ map (cell false) more
  where
    cell : Bool → ℕ → Cell
    cell mark graphic = record { char = unwrap_or (position (λ each. each == graphic) graphics) 0; mark = mark }

text : List ℕ → List ℕ
unfolding graphics columns_of operations_with_d operands_text digits cells
text graphics_of = instruction_text (cells graphics_of)

moves_have_up_to_two_addresses : map text (codes "M" ∷ codes "M510" ∷ codes "M510509" ∷ [])
    ≡ codes "MCW  " ∷ codes "MCW  510" ∷ codes "MCW  510,509" ∷ []
unfolding text
moves_have_up_to_two_addresses = refl

addresses_are_in_decimal_with_their_index_registers : map text (codes "H0Z9" ∷ codes "QI9I" ∷ codes "LI9I00H"
    ∷ codes "A^00IRI"
    ∷ [])
    ≡ codes "SBR  099+X1" ∷ codes "SAR  15999" ∷ codes "LCA  15999,12008" ∷ codes "A    1000,15999+X2" ∷ []
unfolding text
addresses_are_in_decimal_with_their_index_registers = refl

branches_say_their_d_character : map text (codes "B500" ∷ codes "B500/" ∷ codes "B500S" ∷ codes "B500B" ∷ codes "B500Q"
    ∷ codes "B500600X" ∷ codes "V5006001" ∷ codes "V500600B" ∷ [])
    ≡ codes "B    500" ∷ codes "BU   500" ∷ codes "BE   500" ∷ codes "BSS  500,B" ∷ codes "B    500,Q"
    ∷ codes "BCE  500,600,X" ∷ codes "BW   500,600" ∷ codes "BWZ  500,600,B" ∷ []
unfolding text
branches_say_their_d_character = refl

cards_and_paper : map text (codes "1" ∷ codes "2)" ∷ codes "2500)" ∷ codes "4500" ∷ codes "F1" ∷ codes "K1"
    ∷ codes ".414"
    ∷ [])
    ≡ codes "R    " ∷ codes "WM   " ∷ codes "WM   500" ∷ codes "P    500" ∷ codes "CC   1" ∷ codes "SS   1"
    ∷ codes "H    414" ∷ []
unfolding text
cards_and_paper = refl

what_the_assembler_has_no_word_for : map text (codes "K5001" ∷ codes "N50" ∷ codes "@500600" ∷ codes "$" ∷ [])
    ≡ codes "SS   500,1" ∷ codes "NOP  50" ∷ codes "M    500,600" ∷ codes "$    " ∷ []
unfolding text
what_the_assembler_has_no_word_for = refl
