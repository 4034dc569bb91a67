-- What operations of both languages ask for in the wider one, computed.
use Rattle.std.proofs.Common.{◌≡◌, ℕ, true, false, List, [], ◌∷◌, ◌++◌, map, replicate, Some, None, pos, refl}
use Rattle.std.specs.Prelude.{Bool, Option, codes}
use Rattle.autocoder_statements.specs.Constant.{text_of}
use Rattle.autocoder_statements.specs.Mnemonic.{instructions, assembler_operations}
use Rattle.autocoder_statements.specs.Operands.{field_of}
use Rattle.autocoder_statements.specs.Statement.{has_bad_operands}
use Rattle.autocoder_statements.specs.WideMnemonic.{wide_instructions}
use Rattle.autocoder_statements.specs.WideOperation.{wide_operations}
use Rattle.autocoder_statements.specs.WideStatement.{wide_body_of}
use Rattle.autocoder_statements.specs.declared.address.Base.TheVariants as bases
use Rattle.autocoder_statements.specs.declared.constant.Constant.TheVariants as constants
use Rattle.autocoder_statements.specs.declared.language.Language.TheVariants.{Ibm}
use Rattle.autocoder_statements.specs.declared.operands.Operand.TheVariants as operands
use Rattle.autocoder_statements.specs.declared.operands.OperandField.{OperandField}
use Rattle.autocoder_statements.specs.declared.operands.OperandField.TheVariants as fields
use Rattle.autocoder_statements.specs.declared.operands.Operands.{Operands}
use Rattle.autocoder_statements.specs.declared.statement.Areas.{Areas}
use Rattle.autocoder_statements.specs.declared.statement.Body.{Body}
use Rattle.autocoder_statements.specs.declared.statement.Body.TheVariants as bodies
use Rattle.autocoder_statements.specs.declared.statement.Span.{Span}

-- what columns for an operation and for its operands ask for
asks : List ℕ → List ℕ → Body
unfolding instructions assembler_operations wide_instructions wide_operations
asks operation operands = wide_body_of operation operands

-- whether the operands of an operation aren't as it asks
bad : List ℕ → List ℕ → Bool
unfolding asks
bad operation columns = has_bad_operands (asks operation columns)

-- the address or literal that a word is
abbrev the : List ℕ → OperandField
the word = field_of Ibm word

-- one operand, and nothing else or something
abbrev one : OperandField → Bool → Operands
one operand is_whole = record { a = operand; b = fields.Absent; d = None; is_whole = is_whole }

abbrev address_constant : Bool → Bool → Operands → Body
address_constant is_marked is_negative of =
    bodies.AddressConstant (record { is_marked = is_marked; is_negative = is_negative; operands = of })

addresses_are_constants : map (asks (codes "DSA  ")) (codes "TAB+X3 " ∷ codes "*" ∷ codes "500 and a remark"
    ∷ codes "X1+5 " ∷ codes "UNDEF,1 " ∷ codes "+5 " ∷ [])
    ≡ map (address_constant true false) (one (the (codes "TAB+X3")) true ∷ one (the (codes "*")) true
    ∷ one (the (codes "500")) true ∷ one (the (codes "X1+5")) true ∷ one (the (codes "UNDEF")) false
    ∷ one (the (codes "+5")) true ∷ [])
unfolding asks
addresses_are_constants = refl

a_sign_before_a_symbol : asks (codes "DC   ") (codes "-TAB ") ∷ asks (codes "DCW  ") (codes "+TAG-2+X1 ")
    ∷ asks (codes "DCW  ") (codes "+X1+X2 ") ∷ asks (codes "DCW  ") (codes "-TAG,1 ") ∷ []
    ≡ address_constant false true (one (the (codes "TAB")) true)
    ∷ address_constant true false (one (the (codes "TAG-2+X1")) true)
    ∷ address_constant true false (one (the (codes "X1+X2")) true)
    ∷ address_constant true true (one (the (codes "TAG")) false) ∷ []
unfolding asks
a_sign_before_a_symbol = refl

-- digits after a sign are what they are in the plain language
other_constants_stay : map (asks (codes "DCW  ")) (codes "+5 " ∷ codes "-12345678901234567890 " ∷ codes "+TAG+X4 "
    ∷ codes "+5+X1 " ∷ codes "-*" ∷ codes "TAG " ∷ codes "+@A@ " ∷ codes "5,6 " ∷ [])
    ≡ map bodies.MarkedConstant (Some (constants.Plus (text_of (codes "5")))
    ∷ Some (constants.Minus (text_of (codes "12345678901234567890"))) ∷ replicate 6 None)
unfolding asks
other_constants_stay = refl

abbrev the_text : List ℕ → Body
the_text graphics = bodies.MarkedConstant (Some (constants.Text (text_of graphics)))

-- a text goes on to its last at sign
at_signs_in_a_text : map (asks (codes "DCW  ")) (codes "@A@B@ " ∷ codes "@A@B@" ∷ codes "@@@ a remark"
    ∷ codes "@A@B C@D@ " ∷ codes "@A@B C@" ∷ codes "@A@ B@ " ∷ codes "@A @B@ C" ∷ [])
    ≡ map the_text (codes "A@B" ∷ codes "A@B" ∷ codes "@" ∷ codes "A@B C@D" ∷ codes "A@B C" ∷ codes "A@ B"
    ∷ codes "A @B" ∷ [])
unfolding asks
at_signs_in_a_text = refl

-- another operand, or something at the last at sign, isn't in the text
no_texts : map (bad (codes "DCW  ")) (codes "@A@,B@ " ∷ codes "@A@B@C " ∷ codes "@@ " ∷ codes "@ " ∷ codes "A@B@ " ∷ [])
    ≡ replicate 5 true
unfolding bad
no_texts = refl

-- a text that would be too long, or that something follows, is the shorter one
cut_texts : map (asks (codes "DC   ")) ((codes "@A@" ++ replicate 47 32 ++ codes "B@") ∷ (codes "@A@ " ++ replicate 46 32 ++ codes "B@")
    ∷ codes "@A@ B@C" ∷ codes "@A@ AT @ HOME" ∷ [])
    ≡ map (λ (text : List ℕ). bodies.Constant (Some (constants.Text (text_of text))))
    ((codes "A@" ++ replicate 47 32 ++ codes "B") ∷ (codes "A@ " ++ replicate 46 32 ++ codes "B") ∷ codes "A" ∷ codes "A@ AT " ∷ [])
unfolding asks
cut_texts = refl

abbrev sevens : ℕ → List ℕ
sevens count = replicate count 55

long_numbers : map (asks (codes "DC   ")) (sevens 21 ∷ (codes "+" ++ sevens 50) ∷ (codes "-" ++ sevens 30 ++ codes " a") ∷ [])
    ≡ map bodies.Constant (Some (constants.Number (text_of (sevens 21))) ∷ Some (constants.Plus (text_of (sevens 50)))
    ∷ Some (constants.Minus (text_of (sevens 30))) ∷ [])
unfolding asks
long_numbers = refl

too_long_numbers : map (bad (codes "DCW  ")) (sevens 51 ∷ (codes "+" ++ sevens 51) ∷ (sevens 30 ++ codes "A") ∷ [])
    ≡ replicate 3 true
unfolding bad
too_long_numbers = refl

many_blanks_are_constants : map (asks (codes "DCW  ")) (codes "#50 " ∷ codes "#51 " ∷ codes "#00400 a remark"
    ∷ codes "#9999" ∷ [])
    ≡ bodies.MarkedConstant (Some (constants.Blanks 50)) ∷ map bodies.Blanks (51 ∷ 400 ∷ 9999 ∷ [])
unfolding asks
many_blanks_are_constants = refl

-- DC has no more than 50
too_many_blanks : bad (codes "DCW  ") (codes "#10000 ") ∷ bad (codes "DC   ") (codes "#51 ")
    ∷ bad (codes "DCW  ") (codes "#51,1 ") ∷ bad (codes "DCW  ") (codes "#0 ") ∷ []
    ≡ replicate 4 true
unfolding bad
too_many_blanks = refl

not_one_address : map (bad (codes "DSA  ")) (codes "+5 " ∷ codes "@A@ " ∷ codes "TAB,1 " ∷ codes "%U1 "
    ∷ codes "*+X00 " ∷ codes " TAB" ∷ [])
    ≡ replicate 6 true
unfolding bad
not_one_address = refl

abbrev next_hundred : OperandField
next_hundred = fields.Operand (operands.Address (record { base = bases.NextHundred; adjustment = pos 0; index = None }))

abbrev here : OperandField
here = fields.Operand (operands.Address (record { base = bases.Here; adjustment = pos 20; index = None }))

the_next_place : map (asks (codes "ORG  ")) (codes "*+X00 " ∷ codes "*+20" ∷ codes "X1 " ∷ codes "*+X00,5 " ∷ [])
    ≡ map bodies.LabelledOrigin (one next_hundred true ∷ one here true ∷ one (the (codes "X1")) true
    ∷ one next_hundred false ∷ [])
unfolding asks
the_next_place = refl

literals_at_the_next_place : map (asks (codes "LTORG")) (codes "    " ∷ codes "* " ∷ codes " 600 " ∷ codes "600 "
    ∷ codes "BACK-1" ∷ codes "*+X00 " ∷ codes "*+20 " ∷ codes "*,5 " ∷ [])
    ≡ map bodies.LiteralOrigin (replicate 3 (one (the (codes "*")) true) ++ one (the (codes "600")) true
    ∷ one (the (codes "BACK-1")) true ∷ one next_hundred true ∷ one here true ∷ one (the (codes "*")) false ∷ [])
unfolding asks
literals_at_the_next_place = refl

literals_at_no_place : map (bad (codes "LTORG")) (codes "*+X1 " ∷ codes "600+X0 " ∷ codes "600,1 " ∷ codes "+5 "
    ∷ codes ",5 " ∷ codes "*+X00+1 " ∷ codes "%U1 " ∷ [])
    ≡ replicate 7 true
unfolding bad
literals_at_no_place = refl

no_next_place : map (bad (codes "ORG  ")) (codes "*+X1 " ∷ codes "*+X00+5 " ∷ codes "*+X00,5 "
    ∷ codes "TAB+X00 " ∷ codes "+5 " ∷ codes "TAB+X2 " ∷ codes "%U1 " ∷ codes ",5 " ∷ [])
    ≡ replicate 8 true
unfolding bad
no_next_place = refl

back_to_the_highest_place : map (asks (codes "ORG  ")) (codes "   " ∷ codes " *" ∷ [])
    ≡ replicate 2 (bodies.LabelledOrigin (one fields.Absent true))
unfolding asks
back_to_the_highest_place = refl

these_are_next_places : map (bad (codes "ORG  ")) (codes "   " ∷ codes " 600" ∷ codes "* " ∷ codes "TAB+5 " ∷ [])
    ≡ replicate 4 false
unfolding bad
these_are_next_places = refl

-- an asterisk says a value, but the next hundred is for ORG and LTORG alone, and an index register for EQU
values : List Bool
unfolding bad
values = bad (codes "EQU  ") (codes "*+1 ") ∷ bad (codes "EX   ") (codes "* ") ∷ bad (codes "XFR  ") (codes "*-3 ")
    ∷ bad (codes "END  ") (codes "* ") ∷ bad (codes "ORG  ") (codes "* ") ∷ bad (codes "ORG  ") (codes "*+X00 ")
    ∷ bad (codes "EQU  ") (codes "TAB-2+X2 ") ∷ bad (codes "EQU  ") (codes "TAB+X0 ")
    ∷ bad (codes "EQU  ") (codes "X1+X3 ") ∷ []

no_values : List Bool
unfolding bad
no_values = bad (codes "EQU  ") (codes "*+X00 ") ∷ bad (codes "EX   ") (codes "*+X00 ")
    ∷ bad (codes "XFR  ") (codes "*+X00 ") ∷ bad (codes "END  ") (codes "*+X00 ")
    ∷ bad (codes "EX   ") (codes "5+X1 ") ∷ bad (codes "XFR  ") (codes "*+X3 ") ∷ bad (codes "END  ") (codes "*+X1 ")
    ∷ bad (codes "EQU  ") (codes "+5 ") ∷ bad (codes "EQU  ") (codes "TAB+X2,1 ") ∷ bad (codes "EQU  ") (codes "   ")
    ∷ bad (codes "EQU  ") (codes "%U1,5 ") ∷ bad (codes "EX   ") (codes "   ") ∷ bad (codes "XFR  ") (codes "1,2 ") ∷ []

an_asterisk_is_a_value : values ≡ replicate 9 false
unfolding values
an_asterisk_is_a_value = refl

these_are_no_values : no_values ≡ replicate 13 true
unfolding no_values
these_are_no_values = refl

abbrev the_unit : List ℕ → OperandField
the_unit graphics = fields.Operand (operands.Unit (record { graphics = graphics }))

names_of_units : map (asks (codes "EQU  ")) (codes "%U1 " ∷ codes "%B3 a remark" ∷ codes "%U1,5 " ∷ [])
    ≡ map bodies.WideEquate (one (the_unit (codes "%U1")) true ∷ one (the_unit (codes "%B3")) true
    ∷ one (the_unit (codes "%U1")) false ∷ [])
unfolding asks
names_of_units = refl

no_names_of_units : map (bad (codes "EQU  ")) (codes "%U1+1 " ∷ codes "%U1+X1 " ∷ codes "%1U " ∷ codes "%UU " ∷ codes "%U12 " ∷ [])
    ≡ replicate 5 true
unfolding bad
no_names_of_units = refl

an_end_without_operand : asks (codes "END  ") (codes "   ") ≡ bodies.WideEnd (one fields.Absent true)
unfolding asks
an_end_without_operand = refl

ends_good_and_bad : map (bad (codes "END  ")) (codes "   " ∷ codes " GO" ∷ codes "GO " ∷ codes "1,2 " ∷ codes ",1 "
    ∷ codes "+5 " ∷ [])
    ≡ replicate 3 false ++ replicate 3 true
unfolding bad
ends_good_and_bad = refl

abbrev areas_marked : Bool → Bool → ℕ → Bool → Option Areas
areas_marked has_group_mark has_record_marks index counts_from_zero =
    Some (record {
      count = 2;
      length = 5;
      has_group_mark = has_group_mark;
      has_record_marks = has_record_marks;
      index = index;
      counts_from_zero = counts_from_zero;
    })

abbrev areas_by : Bool → ℕ → Bool → Option Areas
areas_by has_group_mark index counts_from_zero = areas_marked has_group_mark false index counts_from_zero

abbrev areas : Bool → Option Areas
areas has_group_mark = areas_by has_group_mark 0 false

options_of_areas : map (asks (codes "DA   ")) (codes "2X5 " ∷ codes "2X5,C " ∷ codes "2X5 ,G " ∷ codes "2X5,G "
    ∷ codes "2X5,G,C a remark" ∷ codes "2X5,C,G" ∷ [])
    ≡ map bodies.Areas (replicate 3 (areas false) ++ replicate 3 (areas true))
unfolding asks
options_of_areas = refl

record_marks_after_areas : map (asks (codes "DA   ")) (codes "2X5,' " ∷ codes "2X5,',C a remark" ∷ codes "2X5,G,'"
    ∷ codes "2X5,X2,' " ∷ [])
    ≡ map bodies.Areas (areas_marked false true 0 false ∷ areas_marked false true 0 false
    ∷ areas_marked true true 0 false ∷ areas_marked false true 2 false ∷ [])
unfolding asks
record_marks_after_areas = refl

options_of_fields : map (asks (codes "DA   ")) (codes "2X5,X1 " ∷ codes "2X5,0 " ∷ codes "2X5,X2,0,G "
    ∷ codes "2X5,0,C,X3" ∷ codes "2X5,G,X1 a remark" ∷ codes "2X5,0" ∷ [])
    ≡ map bodies.Areas (areas_by false 1 false ∷ areas_by false 0 true ∷ areas_by true 2 true ∷ areas_by false 3 true
    ∷ areas_by true 1 false ∷ areas_by false 0 true ∷ [])
unfolding asks
options_of_fields = refl

-- one of X1 to X3 at the most
no_options_of_fields : map (bad (codes "DA   ")) (codes "1X5,X1,X1 " ∷ codes "1X5,X1,X2 " ∷ codes "1X5,0,0 "
    ∷ codes "1X5,X0 " ∷ codes "1X5,X4 " ∷ codes "1X5,X" ∷ codes "1X5,X,1 " ∷ codes "1X5,X1X2 " ∷ codes "1X5,X1, "
    ∷ codes "1X5,X10 " ∷ codes "1X5,00 " ∷ codes "1X5,1 " ∷ codes "1X5,0,X1,0 " ∷ [])
    ≡ replicate 13 true
unfolding bad
no_options_of_fields = refl

no_options_of_areas : map (bad (codes "DA   ")) (codes "1X5,G,G " ∷ codes "1X5,',' " ∷ codes "1X5,C,G,C " ∷ codes "1X5, " ∷ codes "1X5,,G "
    ∷ codes "1X5,GC " ∷ codes "1X5,X " ∷ codes "G,1X5 " ∷ codes "1X5G " ∷ [])
    ≡ replicate 9 true
unfolding bad
no_options_of_areas = refl

-- a place alone sets no mark
abbrev span : ℕ → ℕ → Bool → Option Span
span first last is_marked = Some (record { first = first; last = last; is_marked = is_marked })

places_of_fields : map (asks (codes "     ")) (codes "1,2 " ∷ codes "4 " ∷ codes "5,5" ∷ codes "999" ∷ [])
    ≡ map bodies.WideField (span 1 2 true ∷ span 4 4 false ∷ span 5 5 true ∷ span 999 999 false ∷ [])
unfolding asks
places_of_fields = refl

no_places_of_fields : map (bad (codes "     ")) (codes "0 " ∷ codes "1000 " ∷ codes "4, " ∷ codes "2,1 "
    ∷ codes "1,2,3 " ∷ codes "   " ∷ codes "A " ∷ [])
    ≡ replicate 7 true
unfolding bad
no_places_of_fields = refl
