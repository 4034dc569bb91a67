-- One area of some; cells put in turn.
use Rattle.std.proofs.Common.{◌≡◌, ℕ, zero, suc, ◌-◌, ◌<◌, List, [], ◌∷◌, ◌++◌, map, ℤ, refl, sym, arith, ap, subst, ◌∙◌}
use Rattle.std.proofs.lemmas.List.{append_assoc}
use Rattle.bcd_1401.specs.declared.cell.Cell.{Cell}
use Rattle.autocoder_statements.specs.declared.mnemonic.Instruction.{Instruction}
use Rattle.autocoder_statements.specs.declared.operands.Operands.{Operands}
use Rattle.autocoder_placing.specs.Characters.{char_of}
use Rattle.autocoder_placing.specs.Placement.{Placement}
use Rattle.autocoder_placing.specs.Cells.{plain, marked, operand_codes, d_codes, operands_cells, instruction_cells}
use Rattle.autocoder_placing.specs.Cells.{repeated}

pub one_area : (n : ℕ) (area : List Cell) → 0 < n → repeated n area ≡ area ++ repeated (n - 1) area
one_area zero area h = absurd (omega (arith, h))
one_area (suc n) area h = let less : suc n - 1 ≡ n = omega arith in rw less refl

-- with one cell more, what is put and what is left to put are all cells
pub one_more : {A : Type 0} (cells : List A → List Cell) (before after whole : List Cell) (left rest : List A) (cell : Cell)
    → cells left ≡ cell ∷ cells rest → before ++ cells left ≡ whole → after ≡ before ++ cell ∷ []
    → after ++ cells rest ≡ whole
one_more cells before after whole left rest cell first so_far one =
    ap (λ (put : List Cell). put ++ cells rest) one ∙ append_assoc before (cell ∷ []) (cells rest)
    ∙ ap (λ (more : List Cell). before ++ more) (sym first) ∙ so_far

-- what is put in two turns
pub in_turn : (before between after first second : List Cell) → between ≡ before ++ first → after ≡ between ++ second
    → after ≡ before ++ (first ++ second)
in_turn before between after first second one two =
    two ∙ ap (λ (cells : List Cell). cells ++ second) one ∙ append_assoc before first second

-- one operand after the other
pub operands_in_turn : (all : Placement) (here given : ℤ) (of : Operands) (before between after : List Cell)
    → given ≡ here
    → between ≡ before ++ map plain (operand_codes all given of.a)
    → after ≡ between ++ map plain (operand_codes all given of.b) → after ≡ before ++ operands_cells all here of
operands_in_turn all here given of before between after same one two =
    subst (λ (at : ℤ). after ≡ before ++ operands_cells all at of) same
    (in_turn before between after (map plain (operand_codes all given of.a))
    (map plain (operand_codes all given of.b)) one two)

-- an operation, its addresses and its d-character, one after the other
pub instruction_in_turn : (all : Placement) (here given : ℤ) (instruction : Instruction) (of : Operands)
    (before first between after : List Cell) (operation : ℕ) → given ≡ here
    → operation ≡ char_of instruction.operation → first ≡ before ++ marked operation ∷ [] → between ≡ first
    ++ operands_cells all given of
    → after ≡ between ++ map plain (d_codes of.d) → after ≡ before ++ instruction_cells all here instruction of
instruction_in_turn all here given instruction of before first between after operation same same_char one two three =
    let addresses : between ≡ first ++ operands_cells all here of =
    subst (λ (at : ℤ). between ≡ first ++ operands_cells all at of) same two in
    let operated : first ≡ before ++ marked (char_of instruction.operation) ∷ [] =
    one ∙ ap (λ (code : ℕ). before ++ marked code ∷ []) same_char in
    let beyond = in_turn first between after (operands_cells all here of) (map plain (d_codes of.d)) addresses three in
    in_turn before first after (marked (char_of instruction.operation) ∷ [])
    (operands_cells all here of ++ map plain (d_codes of.d)) operated beyond
