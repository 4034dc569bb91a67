-- Literals of addresses and areas, computed.
use Rattle.std.proofs.Common.{◌≡◌, ℕ, true, false, List, [], ◌∷◌, map, replicate, None, Some, pos, negsuc, refl}
use Rattle.std.specs.Prelude.{Bool, ℤ, Option, codes}
use Rattle.std.specs.Str.{byte}
use Rattle.autocoder_statements.specs.Constant.{text_of}
use Rattle.autocoder_statements.specs.Mnemonic.{instructions, assembler_operations}
use Rattle.autocoder_statements.specs.Operands.{as_literal, field_with, instruction_operand_of}
use Rattle.autocoder_statements.specs.SourceLine.{padded}
use Rattle.autocoder_statements.specs.Statement.{has_bad_operands}
use Rattle.autocoder_statements.specs.WideMnemonic.{wide_instructions}
use Rattle.autocoder_statements.specs.WideOperation.{wide_operations}
use Rattle.autocoder_statements.specs.WideStatement.{wide_body_of}
use Rattle.autocoder_statements.specs.declared.address.Base.{Base}
use Rattle.autocoder_statements.specs.declared.address.Base.TheVariants as bases
use Rattle.autocoder_statements.specs.declared.constant.Constant.TheVariants as constants
use Rattle.autocoder_statements.specs.declared.language.Language.TheVariants.{Plain, Ibm}
use Rattle.autocoder_statements.specs.declared.literal.Literal.TheVariants as literals
use Rattle.autocoder_statements.specs.declared.mnemonic.DCharacter.TheVariants as d
use Rattle.autocoder_statements.specs.declared.operands.Operand.{Operand}
use Rattle.autocoder_statements.specs.declared.operands.Operand.TheVariants as operands
use Rattle.autocoder_statements.specs.declared.operands.OperandField.TheVariants as fields
use Rattle.autocoder_statements.specs.declared.statement.Body.{Body}
use Rattle.autocoder_statements.specs.declared.statement.Body.TheVariants as bodies

-- the operand of an instruction that a word is
abbrev the : List ℕ → Option Operand
the word = instruction_operand_of Ibm word

abbrev address : Bool → Base → ℤ → Option ℕ → Option Operand
address is_negative base adjustment index =
    Some (operands.Literal (literals.Address (record {
      is_negative = is_negative;
      address = record { base = base; adjustment = adjustment; index = index };
    })))

abbrev area : List ℕ → ℕ → Option Operand
area symbol places =
    Some (operands.Literal (literals.Area (record { label = record { text = padded 6 symbol }; places = places })))

abbrev tag : Base
tag = bases.Symbol (record { text = codes "TAG   " })

addresses_with_signs : map the (codes "+TAG" ∷ codes "-TAG" ∷ codes "+TAG-2+X1" ∷ codes "+TAG+0" ∷ codes "-TAG+X0"
    ∷ codes "+X1" ∷ codes "-X3+5+X2" ∷ [])
    ≡ address false tag (pos 0) None ∷ address true tag (pos 0) None ∷ address false tag (negsuc 1) (Some 1)
    ∷ address false tag (pos 0) None ∷ address true tag (pos 0) (Some 0)
    ∷ address false (bases.Register 1) (pos 0) None ∷ address true (bases.Register 3) (pos 5) (Some 2) ∷ []
addresses_with_signs = refl

areas_with_their_symbols : map the (codes "TAG#1" ∷ codes "TAG#50" ∷ codes "TAG#003" ∷ codes "X1#3" ∷ codes "ABCDEF#12"
    ∷ [])
    ≡ area (codes "TAG") 1 ∷ area (codes "TAG") 50 ∷ area (codes "TAG") 3 ∷ area (codes "X1") 3
    ∷ area (codes "ABCDEF") 12 ∷ []
areas_with_their_symbols = refl

these_are_no_areas : map the (codes "TAG#0" ∷ codes "TAG#51" ∷ codes "TAG#" ∷ codes "TAG#3+1" ∷ codes "TAG#3+X1"
    ∷ codes "#3" ∷ codes "TAG#3#3" ∷ codes "TAG#-3" ∷ codes "TAG#TAG" ∷ codes "TAG+1#3" ∷ codes "5#3" ∷ codes "*#3"
    ∷ codes "ABCDEFG#3" ∷ codes "+TAG#3" ∷ codes "@A@#3" ∷ [])
    ≡ replicate 15 None
these_are_no_areas = refl

these_are_no_addresses : map the (codes "+" ∷ codes "+5+X1" ∷ codes "+*" ∷ codes "-*+X00" ∷ codes "+TAG+X4"
    ∷ codes "++TAG" ∷ codes "+TAG+1+2" ∷ codes "+@A@" ∷ codes "+ABCDEFG" ∷ codes "-%U1" ∷ [])
    ≡ replicate 10 None
these_are_no_addresses = refl

-- what the plain language reads stays what it is
constants_stay : map the (codes "+5" ∷ codes "-12" ∷ codes "@TAG#3@" ∷ codes "+12345678901234567890" ∷ [])
    ≡ Some (as_literal (constants.Plus (text_of (codes "5")))) ∷ Some (as_literal (constants.Minus (text_of (codes "12"))))
    ∷ Some (as_literal (constants.Text (text_of (codes "TAG#3"))))
    ∷ Some (as_literal (constants.Plus (text_of (codes "12345678901234567890")))) ∷ []
constants_stay = refl

the_plain_language_has_none : map (instruction_operand_of Plain) (codes "+TAG" ∷ codes "TAG#3" ∷ codes "-X1" ∷ [])
    ≡ replicate 3 None
the_plain_language_has_none = refl

-- what columns for an operation and for its operands ask for
asks : List ℕ → List ℕ → Body
unfolding instructions assembler_operations wide_instructions wide_operations
asks operation operands = wide_body_of operation operands

-- whether the operands of an operation aren't as it asks
bad : List ℕ → List ℕ → Bool
unfolding asks
bad operation columns = has_bad_operands (asks operation columns)

both_addresses_of_an_instruction : asks (codes "A    ") (codes "SUM#3,-TAG+1+X2 ")
    ≡ bodies.Instruction (record { operation = byte "A"; form = record { least = 0; most = 2; d = d.Never } })
    (record {
      a = field_with (area (codes "SUM") 3);
      b = field_with (address true tag (pos 1) (Some 2));
      d = None;
      is_whole = true;
    })
unfolding asks
both_addresses_of_an_instruction = refl

where_an_instruction_has_an_address : bad (codes "MCW  ") (codes "SUM#3,SUM ") ∷ bad (codes "B    ") (codes "+TAG,SUM#3,X ")
    ∷ bad (codes "BCE  ") (codes "TAG#3,+TAG,A ") ∷ bad (codes "MU   ") (codes "%U1,AREA#50,R ")
    ∷ bad (codes "RT   ") (codes "1,AREA#50 ") ∷ bad (codes "CC   ") (codes "TAG#1,A ")
    ∷ bad (codes "SBR  ") (codes "X1#3 ") ∷ bad (codes "R    ") (codes "-TAG ") ∷ []
    ≡ replicate 8 false
unfolding bad
where_an_instruction_has_an_address = refl

and_nowhere_else : map (λ (operation : List ℕ). bad operation (codes "+TAG ")) (codes "ORG  " ∷ codes "LTORG"
    ∷ codes "EQU  " ∷ codes "EX   " ∷ codes "XFR  " ∷ codes "END  " ∷ codes "DSA  " ∷ codes "DS   " ∷ [])
    ≡ replicate 8 true
unfolding bad
and_nowhere_else = refl

areas_nowhere_else : map (λ (operation : List ℕ). bad operation (codes "TAG#3 ")) (codes "ORG  " ∷ codes "LTORG"
    ∷ codes "EQU  " ∷ codes "EX   " ∷ codes "XFR  " ∷ codes "END  " ∷ codes "DSA  " ∷ codes "DCW  " ∷ codes "DC   "
    ∷ codes "CHAIN" ∷ codes "SFX  " ∷ [])
    ≡ replicate 11 true
unfolding bad
areas_nowhere_else = refl

no_units : bad (codes "CU   ") (codes "TAG#3,R ") ∷ bad (codes "WTM  ") (codes "+TAG ")
    ∷ bad (codes "MU   ") (codes "TAG#3,AREA,R ") ∷ []
    ≡ replicate 3 true
unfolding bad
no_units = refl

-- there they are nothing at all, so that no symbol is looked up
no_next_place : asks (codes "ORG  ") (codes "TAG#3 ")
    ≡ bodies.LabelledOrigin (record { a = fields.Malformed; b = fields.Absent; d = None; is_whole = true })
unfolding asks
no_next_place = refl
