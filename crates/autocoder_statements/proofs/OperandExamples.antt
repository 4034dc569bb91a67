-- Labels, mnemonics, constants, addresses and operands, computed.
use Rattle.std.proofs.Common.{◌≡◌, ℕ, true, false, List, [], ◌∷◌, ◌++◌, map, replicate, Option, None, Some, pos, negsuc}
use Rattle.std.proofs.Common.{refl}
use Rattle.std.specs.Prelude.{codes}
use Rattle.std.specs.Str.{byte}
use Rattle.autocoder_statements.specs.SourceLine.{padded}
use Rattle.autocoder_statements.specs.Label.{label_in, label_of}
use Rattle.autocoder_statements.specs.Mnemonic.{instructions, assembler_operations, operation_of}
use Rattle.autocoder_statements.specs.Constant.{text_of, constant_of}
use Rattle.autocoder_statements.specs.Address.{address_of}
use Rattle.autocoder_statements.specs.Operands.{operand_of, operand_in, operands_of}
use Rattle.autocoder_statements.specs.declared.label.Label.{Label}
use Rattle.autocoder_statements.specs.declared.label.LabelField.TheVariants as labels
use Rattle.autocoder_statements.specs.declared.language.Language.TheVariants.{Plain}
use Rattle.autocoder_statements.specs.declared.mnemonic.DCharacter.{DCharacter}
use Rattle.autocoder_statements.specs.declared.mnemonic.DCharacter.TheVariants as d
use Rattle.autocoder_statements.specs.declared.mnemonic.Operation.{Operation}
use Rattle.autocoder_statements.specs.declared.mnemonic.Operation.TheVariants as operations
use Rattle.autocoder_statements.specs.declared.constant.Constant.TheVariants.{Text, Number, Plus, Minus, Blanks}
use Rattle.autocoder_statements.specs.declared.address.Address.{Address}
use Rattle.autocoder_statements.specs.declared.address.Base.{Base}
use Rattle.autocoder_statements.specs.declared.address.Base.TheVariants as bases
use Rattle.autocoder_statements.specs.declared.operands.Operand.TheVariants as operands
use Rattle.autocoder_statements.specs.declared.operands.OperandField.{OperandField}
use Rattle.autocoder_statements.specs.declared.operands.OperandField.TheVariants as fields
use Rattle.autocoder_statements.specs.declared.operands.Operands.{Operands}

abbrev named : List ℕ → Label
named word = record { text = padded 6 word }

a_label_is_a_letter_and_up_to_five_more : map (label_in Plain) (codes "START     " ∷ codes "A1        "
    ∷ codes "ABCDEF    " ∷ codes "          " ∷ [])
    ≡ labels.Label (named (codes "START")) ∷ labels.Label (named (codes "A1")) ∷ labels.Label (named (codes "ABCDEF"))
    ∷ labels.Absent ∷ []
a_label_is_a_letter_and_up_to_five_more = refl

these_are_no_labels : map (label_in Plain) (codes "ABCDEFG   " ∷ codes " A        " ∷ codes "1A        "
    ∷ codes "A B       " ∷ codes "A-B       " ∷ codes "X1        " ∷ codes "X3        " ∷ [])
    ≡ replicate 7 labels.Malformed
these_are_no_labels = refl

x4_is_a_label : label_of Plain (codes "X4") ≡ Some (named (codes "X4"))
x4_is_a_label = refl

-- what columns 16 to 20 ask for
asks : List ℕ → Option Operation
unfolding instructions assembler_operations
asks columns = operation_of columns

abbrev instruction : ℕ → ℕ → ℕ → DCharacter → Option Operation
instruction operation least most d =
    Some (operations.Instruction
    (record { operation = operation; form = record { least = least; most = most; d = d } }))

mnemonics_ask_for_instructions : map asks (codes "ZA   " ∷ codes "MLC  " ∷ codes "B    " ∷ codes "BWZ  " ∷ codes "BW   "
    ∷ codes "BH   " ∷ codes "WRP  " ∷ codes "CC   " ∷ codes "H    " ∷ [])
    ≡ instruction (byte "?") 0 2 d.Never ∷ instruction (byte "M") 0 2 d.Never ∷ instruction (byte "B") 1 1 d.Optional
    ∷ instruction (byte "V") 2 2 d.Required ∷ instruction (byte "V") 2 2 (d.Fixed (byte "1"))
    ∷ instruction (byte "B") 1 1 (d.Fixed (byte "U")) ∷ instruction (byte "7") 0 1 d.Never
    ∷ instruction (byte "F") 0 0 d.Required ∷ instruction (byte ".") 0 1 d.Never ∷ []
unfolding asks
mnemonics_ask_for_instructions = refl

blank_columns_ask_for_a_field : asks (codes "     ") ≡ Some operations.Field
unfolding asks
blank_columns_ask_for_a_field = refl

these_are_no_mnemonics : map asks (codes "MU   " ∷ codes " A   " ∷ codes "A  B " ∷ codes "ORGS " ∷ codes "LTORG" ∷ [])
    ≡ replicate 5 None
unfolding asks
these_are_no_mnemonics = refl

constants_say_what_they_hold : map constant_of (codes "@HI@" ∷ codes "@A, B@" ∷ codes "+5" ∷ codes "-12" ∷ codes "007"
    ∷ codes "#3" ∷ codes "#00050" ∷ [])
    ≡ Some (Text (text_of (codes "HI"))) ∷ Some (Text (text_of (codes "A, B"))) ∷ Some (Plus (text_of (codes "5")))
    ∷ Some (Minus (text_of (codes "12"))) ∷ Some (Number (text_of (codes "007")))
    ∷ Some (Blanks 3) ∷ Some (Blanks 50) ∷ []
constants_say_what_they_hold = refl

these_are_no_constants : map constant_of ([] ∷ codes "@@" ∷ codes "@HI" ∷ codes "@A@B" ∷ codes "@" ∷ codes "+"
    ∷ codes "+5A" ∷ codes "#" ∷ codes "#0" ∷ codes "#51" ∷ codes "LABEL" ∷ replicate 21 57
    ∷ (64 ∷ replicate 51 65 ++ 64 ∷ []) ∷ [])
    ≡ replicate 13 None
these_are_no_constants = refl

abbrev address : Base → Rattle.std.specs.Prelude.ℤ → Option ℕ → Option Address
address base adjustment index = Some (record { base = base; adjustment = adjustment; index = index })

addresses_have_a_base_an_adjustment_and_an_index_register : map (address_of Plain) (codes "5" ∷ codes "00015"
    ∷ codes "TOTAL" ∷ codes "*" ∷ codes "*-3" ∷ codes "TABLE+10+X2" ∷ codes "0+X1" ∷ codes "A-99999" ∷ [])
    ≡ address (bases.Number 5) (pos 0) None ∷ address (bases.Number 15) (pos 0) None
    ∷ address (bases.Symbol (named (codes "TOTAL"))) (pos 0) None ∷ address bases.Here (pos 0) None
    ∷ address bases.Here (negsuc 2) None
    ∷ address (bases.Symbol (named (codes "TABLE"))) (pos 10) (Some 2) ∷ address (bases.Number 0) (pos 0) (Some 1)
    ∷ address (bases.Symbol (named (codes "A"))) (negsuc 99998) None ∷ []
addresses_have_a_base_an_adjustment_and_an_index_register = refl

these_are_no_addresses : map (operand_of Plain) ([] ∷ codes "FOO-X1" ∷ codes "FOO+X1+5" ∷ codes "FOO+X4" ∷ codes "FOO+"
    ∷ codes "X1" ∷ codes "X1+5" ∷ codes "+5+X1" ∷ codes "@A@+1" ∷ codes "123456" ∷ codes "ABCDEFG" ∷ codes "5A"
    ∷ codes "A+123456" ∷ codes "**" ∷ codes "#3" ∷ [])
    ≡ replicate 15 None
these_are_no_addresses = refl

an_operand_ends_at_a_comma_or_a_blank_outside_of_at_signs : map operand_in (codes "+5,TOTAL" ∷ codes "A B"
    ∷ codes "@A, B@,C" ∷ codes "@A, B" ∷ codes ",A" ∷ [])
    ≡ codes "+5" ∷ codes "A" ∷ codes "@A, B@" ∷ codes "@A, B" ∷ [] ∷ []
an_operand_ends_at_a_comma_or_a_blank_outside_of_at_signs = refl

abbrev number : ℕ → OperandField
number n = fields.Operand (operands.Address (record { base = bases.Number n; adjustment = pos 0; index = None }))

-- the operands of a form
abbrev read : ℕ → ℕ → DCharacter → List ℕ → Operands
read least most d columns = operands_of Plain (record { least = least; most = most; d = d }) columns

abbrev whole : OperandField → OperandField → Option ℕ → Operands
whole a b d = record { a = a; b = b; d = d; is_whole = true }

abbrev partial : OperandField → OperandField → Option ℕ → Operands
partial a b d = record { a = a; b = b; d = d; is_whole = false }

up_to_two_addresses : map (read 0 2 d.Never) (codes " A" ∷ codes "1 A" ∷ codes "1,2" ∷ codes "1,2,3" ∷ codes "1,"
    ∷ codes ",2" ∷ [])
    ≡ whole fields.Absent fields.Absent None ∷ whole (number 1) fields.Absent None ∷ whole (number 1) (number 2) None
    ∷ partial (number 1) (number 2) None ∷ whole (number 1) fields.Malformed None
    ∷ whole fields.Malformed (number 2) None ∷ []
up_to_two_addresses = refl

a_d_character_may_be_a_comma_an_at_sign_or_a_blank : map (read 1 1 d.Optional) (codes "1" ∷ codes "1,A" ∷ codes "1,,"
    ∷ codes "1,@ X" ∷ codes "1,  X" ∷ [])
    ≡ whole (number 1) fields.Absent None ∷ whole (number 1) fields.Absent (Some 65)
    ∷ whole (number 1) fields.Absent (Some 44) ∷ whole (number 1) fields.Absent (Some 64)
    ∷ whole (number 1) fields.Absent (Some 32) ∷ []
a_d_character_may_be_a_comma_an_at_sign_or_a_blank = refl

a_d_character_is_one_column : map (read 1 1 d.Optional) (codes "1,AB" ∷ codes "1," ∷ codes "1,A,B" ∷ [])
    ≡ replicate 3 (partial (number 1) fields.Absent None)
a_d_character_is_one_column = refl

two_addresses_and_a_d_character : map (read 2 2 d.Required) (codes "1,2,A" ∷ codes "1,2" ∷ codes "1,A" ∷ [])
    ≡ whole (number 1) (number 2) (Some 65) ∷ partial (number 1) (number 2) None
    ∷ partial (number 1) (fields.Operand
    (operands.Address (record { base = bases.Symbol (named (codes "A")); adjustment = pos 0; index = None }))) None
    ∷ []
two_addresses_and_a_d_character = refl

without_addresses_the_d_character_stands_first : map (read 0 0 d.Required) (codes "1" ∷ codes "  X" ∷ codes "12" ∷ [])
    ≡ whole fields.Absent fields.Absent (Some 49) ∷ whole fields.Absent fields.Absent (Some 32)
    ∷ partial fields.Absent fields.Absent None ∷ []
without_addresses_the_d_character_stands_first = refl
