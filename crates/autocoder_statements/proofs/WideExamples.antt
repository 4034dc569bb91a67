-- Mnemonics of the wider language and their forms, computed.
use Rattle.std.proofs.Common.{◌≡◌, ℕ, true, false, List, [], ◌∷◌, map, replicate, None, Some, pos, negsuc, refl}
use Rattle.std.specs.Prelude.{Bool, ℤ, Option, codes}
use Rattle.std.specs.Str.{byte}
use Rattle.autocoder_statements.specs.Label.{label_in}
use Rattle.autocoder_statements.specs.Mnemonic.{instructions, assembler_operations}
use Rattle.autocoder_statements.specs.Operands.{field_of}
use Rattle.autocoder_statements.specs.Statement.{has_bad_operands}
use Rattle.autocoder_statements.specs.WideMnemonic.{wide_instructions}
use Rattle.autocoder_statements.specs.WideOperation.{wide_operations}
use Rattle.autocoder_statements.specs.WideStatement.{wide_body_of}
use Rattle.autocoder_statements.specs.declared.address.Base.{Base}
use Rattle.autocoder_statements.specs.declared.address.Base.TheVariants as bases
use Rattle.autocoder_statements.specs.declared.label.LabelField.TheVariants as labels
use Rattle.autocoder_statements.specs.declared.language.Language.TheVariants.{Ibm}
use Rattle.autocoder_statements.specs.declared.mnemonic.DCharacter.{DCharacter}
use Rattle.autocoder_statements.specs.declared.mnemonic.DCharacter.TheVariants as d
use Rattle.autocoder_statements.specs.declared.mnemonic.Form.{Form}
use Rattle.autocoder_statements.specs.declared.operands.Operand.TheVariants as operands
use Rattle.autocoder_statements.specs.declared.operands.OperandField.{OperandField}
use Rattle.autocoder_statements.specs.declared.operands.OperandField.TheVariants as fields
use Rattle.autocoder_statements.specs.declared.statement.Body.{Body}
use Rattle.autocoder_statements.specs.declared.statement.Body.TheVariants as bodies
use Rattle.autocoder_statements.specs.declared.statement.SizeField.TheVariants as sizes
use Rattle.autocoder_statements.specs.declared.statement.SuffixField.TheVariants as suffixes

-- what columns for an operation and for its operands ask for
asks : List ℕ → List ℕ → Body
unfolding instructions assembler_operations wide_instructions wide_operations
asks operation operands = wide_body_of operation operands

abbrev form : ℕ → ℕ → DCharacter → Form
form least most d = record { least = least; most = most; d = d }

-- an instruction of this form with these operands and this d-character
abbrev whole : ℕ → Form → OperandField → OperandField → Option ℕ → Body
whole operation form a b d =
    bodies.Instruction (record { operation = operation; form = form })
    (record { a = a; b = b; d = d; is_whole = true })

-- the address or literal that a word is
abbrev the : List ℕ → OperandField
the word = field_of Ibm word

abbrev up_to_two : Form
up_to_two = form 0 2 d.Never

abbrev two_and_d : Form
two_and_d = form 2 2 d.Required

abbrev one_and_d : Form
one_and_d = form 1 1 d.Required

a_move : asks (codes "MLC  ") (codes "A,B ")
    ≡ whole (byte "M") up_to_two (the (codes "A")) (the (codes "B")) None
unfolding asks
a_move = refl

a_move_with_a_d_character : asks (codes "MCW  ") (codes "A,B,R ")
    ≡ whole (byte "M") two_and_d (the (codes "A")) (the (codes "B")) (Some (byte "R"))
unfolding asks
a_move_with_a_d_character = refl

a_load_by_its_other_name : asks (codes "MLCWA") (codes "A,B,W")
    ≡ whole (byte "L") two_and_d (the (codes "A")) (the (codes "B")) (Some (byte "W"))
unfolding asks
a_load_by_its_other_name = refl

numerics_by_their_other_name : asks (codes "MLNS ") (codes "A,B ")
    ≡ whole (byte "D") up_to_two (the (codes "A")) (the (codes "B")) None
unfolding asks
numerics_by_their_other_name = refl

zones_by_their_other_name : asks (codes "MLZS ") (codes "A,B ")
    ≡ whole (byte "Y") up_to_two (the (codes "A")) (the (codes "B")) None
unfolding asks
zones_by_their_other_name = refl

a_branch_on_an_indicator : asks (codes "B    ") (codes "A,/ ")
    ≡ whole (byte "B") (form 0 1 d.Optional) (the (codes "A")) fields.Absent (Some (byte "/"))
unfolding asks
a_branch_on_an_indicator = refl

-- two addresses and a d-character make it BCE
a_branch_if_a_character_is_equal : asks (codes "B    ") (codes "A,*,C ")
    ≡ whole (byte "B") two_and_d (the (codes "A")) (the (codes "*")) (Some (byte "C"))
unfolding asks
a_branch_if_a_character_is_equal = refl

a_comma_is_a_d_character : asks (codes "B    ") (codes "A,@X@,,")
    ≡ whole (byte "B") two_and_d (the (codes "A")) (the (codes "@X@")) (Some (byte ","))
unfolding asks
a_comma_is_a_d_character = refl

a_branch_alone_in_a_chain : asks (codes "BCE  ") (codes "     ")
    ≡ whole (byte "B") (form 0 0 d.Never) fields.Absent fields.Absent None
unfolding asks
a_branch_alone_in_a_chain = refl

a_branch_with_all : asks (codes "BCE  ") (codes "SW,AREA,A ")
    ≡ whole (byte "B") two_and_d (the (codes "SW")) (the (codes "AREA")) (Some (byte "A"))
unfolding asks
a_branch_with_all = refl

a_branch_by_zone_alone : asks (codes "BWZ  ") (codes "     ")
    ≡ whole (byte "V") (form 0 0 d.Never) fields.Absent fields.Absent None
unfolding asks
a_branch_by_zone_alone = refl

a_branch_by_its_own_name_alone : asks (codes "B    ") (codes "     ")
    ≡ whole (byte "B") (form 0 1 d.Optional) fields.Absent fields.Absent None
unfolding asks
a_branch_by_its_own_name_alone = refl

a_branch_by_word_mark_alone : asks (codes "BW   ") (codes "     ")
    ≡ whole (byte "V") (form 0 0 d.Never) fields.Absent fields.Absent None
unfolding asks
a_branch_by_word_mark_alone = refl

a_branch_by_word_mark : asks (codes "BW   ") (codes "A,B ")
    ≡ whole (byte "V") (form 2 2 (d.Fixed (byte "1"))) (the (codes "A")) (the (codes "B")) (Some (byte "1"))
unfolding asks
a_branch_by_word_mark = refl

a_branch_by_bits : asks (codes "BBE  ") (codes "A,B,1 ")
    ≡ whole (byte "W") two_and_d (the (codes "A")) (the (codes "B")) (Some (byte "1"))
unfolding asks
a_branch_by_bits = refl

a_branch_if_minus : asks (codes "BM   ") (codes "A,B ")
    ≡ whole (byte "V") (form 2 2 (d.Fixed (byte "K"))) (the (codes "A")) (the (codes "B")) (Some (byte "K"))
unfolding asks
a_branch_if_minus = refl

a_branch_on_the_indicator_written : asks (codes "BIN  ") (codes "A,S ")
    ≡ whole (byte "B") one_and_d (the (codes "A")) fields.Absent (Some (byte "S"))
unfolding asks
a_branch_on_the_indicator_written = refl

a_branch_at_the_end_of_a_reel : asks (codes "BEF  ") (codes "A ")
    ≡ whole (byte "B") (form 1 1 (d.Fixed (byte "K"))) (the (codes "A")) fields.Absent (Some (byte "K"))
unfolding asks
a_branch_at_the_end_of_a_reel = refl

a_branch_if_the_carriage_is_busy : asks (codes "BPCB ") (codes "A ")
    ≡ whole (byte "B") (form 1 1 (d.Fixed (byte "R"))) (the (codes "A")) fields.Absent (Some (byte "R"))
unfolding asks
a_branch_if_the_carriage_is_busy = refl

-- a d-character alone, though it is a letter
a_carriage_control : asks (codes "CC   ") (codes "A ")
    ≡ whole (byte "F") (form 0 0 d.Required) fields.Absent fields.Absent (Some (byte "A"))
unfolding asks
a_carriage_control = refl

a_carriage_control_with_a_branch : asks (codes "CC   ") (codes "A,K ")
    ≡ whole (byte "F") one_and_d (the (codes "A")) fields.Absent (Some (byte "K"))
unfolding asks
a_carriage_control_with_a_branch = refl

a_carriage_control_that_branches : asks (codes "CCB  ") (codes "A,1 ")
    ≡ whole (byte "F") one_and_d (the (codes "A")) fields.Absent (Some (byte "1"))
unfolding asks
a_carriage_control_that_branches = refl

a_stacker_select_with_a_branch : asks (codes "SS   ") (codes "A,4 ")
    ≡ whole (byte "K") one_and_d (the (codes "A")) fields.Absent (Some (byte "4"))
unfolding asks
a_stacker_select_with_a_branch = refl

a_stacker_select_that_branches : asks (codes "SSB  ") (codes "A,4 ")
    ≡ whole (byte "K") one_and_d (the (codes "A")) fields.Absent (Some (byte "4"))
unfolding asks
a_stacker_select_that_branches = refl

no_operation_with_an_address : asks (codes "NOP  ") (codes "AREA ")
    ≡ whole (byte "N") up_to_two (the (codes "AREA")) fields.Absent None
unfolding asks
no_operation_with_an_address = refl

no_operation_with_a_d_character : asks (codes "NOP  ") (codes "A,B,1 ")
    ≡ whole (byte "N") two_and_d (the (codes "A")) (the (codes "B")) (Some (byte "1"))
unfolding asks
no_operation_with_a_d_character = refl

a_halt_with_two_addresses : asks (codes "H    ") (codes "1,AREA ")
    ≡ whole (byte ".") up_to_two (the (codes "1")) (the (codes "AREA")) None
unfolding asks
a_halt_with_two_addresses = refl

a_register_into_two_addresses : asks (codes "SBR  ") (codes "A,AREA ")
    ≡ whole (byte "H") (form 1 2 d.Never) (the (codes "A")) (the (codes "AREA")) None
unfolding asks
a_register_into_two_addresses = refl

a_multiplication : asks (codes "M    ") (codes "+5,AREA ")
    ≡ whole (byte "@") up_to_two (the (codes "+5")) (the (codes "AREA")) None
unfolding asks
a_multiplication = refl

a_division : asks (codes "D    ") (codes "A,B ")
    ≡ whole (byte "%") up_to_two (the (codes "A")) (the (codes "B")) None
unfolding asks
a_division = refl

a_modified_address : asks (codes "MA   ") (codes "A,B ")
    ≡ whole (byte "#") up_to_two (the (codes "A")) (the (codes "B")) None
unfolding asks
a_modified_address = refl

a_zone_moved : asks (codes "MIZ  ") (codes "A,B ")
    ≡ whole (byte "X") up_to_two (the (codes "A")) (the (codes "B")) None
unfolding asks
a_zone_moved = refl

a_record_moved : asks (codes "MCM  ") (codes "AREA,201 ")
    ≡ whole (byte "P") up_to_two (the (codes "AREA")) (the (codes "201")) None
unfolding asks
a_record_moved = refl

a_read_fed : asks (codes "SRF  ") (codes "A ")
    ≡ whole (byte "8") (form 0 1 d.Never) (the (codes "A")) fields.Absent None
unfolding asks
a_read_fed = refl

a_punch_fed : asks (codes "SPF  ") (codes "     ")
    ≡ whole (byte "9") (form 0 1 d.Never) fields.Absent fields.Absent None
unfolding asks
a_punch_fed = refl

-- what isn't in the wider table is as in the plain language
an_addition_as_ever : asks (codes "A    ") (codes "+5,AREA ")
    ≡ whole (byte "A") up_to_two (the (codes "+5")) (the (codes "AREA")) None
unfolding asks
an_addition_as_ever = refl

an_unknown_operation : asks (codes "MBC  ") (codes "A,B ") ≡ bodies.Unknown
unfolding asks
an_unknown_operation = refl

-- operands that no form takes are read by the one with more addresses
an_address_where_a_form_has_it : asks (codes "CC   ") (codes "UNDEF,1,2 ")
    ≡ bodies.Instruction (record { operation = byte "F"; form = one_and_d })
    (record { a = the (codes "UNDEF"); b = fields.Absent; d = None; is_whole = false })
unfolding asks
an_address_where_a_form_has_it = refl

the_first_form_has_more : asks (codes "BCE  ") (codes "UNDEF ")
    ≡ bodies.Instruction (record { operation = byte "B"; form = two_and_d })
    (record { a = the (codes "UNDEF"); b = fields.Absent; d = None; is_whole = false })
unfolding asks
the_first_form_has_more = refl

a_heading_says_anything : map (asks (codes "JOB  ")) (codes "WAGES, {MARCH} 1962 " ∷ codes "          " ∷ [])
    ≡ replicate 2 (bodies.Heading true)
unfolding asks
a_heading_says_anything = refl

an_assembler_is_this_one : map (asks (codes "ENT  ")) (codes "AUTOCODER " ∷ codes "AUTOCODER" ∷ codes "SPS  "
    ∷ codes "AUTOCODER,1 " ∷ codes "     " ∷ [])
    ≡ bodies.Heading true ∷ bodies.Heading true ∷ replicate 3 (bodies.Heading false)
unfolding asks
an_assembler_is_this_one = refl

-- an address with X1 to X3 as its base or without index register
abbrev address : Base → ℤ → Option ℕ → OperandField
address base adjustment index =
    fields.Operand (operands.Address (record { base = base; adjustment = adjustment; index = index }))

registers_are_symbols : map (field_of Ibm) (codes "X1" ∷ codes "X1+5" ∷ codes "X1+X2" ∷ codes "X3-1+X1" ∷ codes "5+X0"
    ∷ codes "*+X0" ∷ [])
    ≡ address (bases.Register 1) (pos 0) None ∷ address (bases.Register 1) (pos 5) None
    ∷ address (bases.Register 1) (pos 0) (Some 2) ∷ address (bases.Register 3) (negsuc 0) (Some 1)
    ∷ address (bases.Number 5) (pos 0) (Some 0) ∷ address bases.Here (pos 0) (Some 0) ∷ []
registers_are_symbols = refl

a_register_may_be_a_label : map (label_in Ibm) (codes "X1        " ∷ codes "X3        " ∷ codes "X1,       " ∷ [])
    ≡ labels.Label (record { text = codes "X1    " }) ∷ labels.Label (record { text = codes "X3    " })
    ∷ labels.Malformed ∷ []
a_register_may_be_a_label = refl

-- a unit as it is written
abbrev unit : List ℕ → OperandField
unit graphics = fields.Operand (operands.Unit (record { graphics = graphics }))

a_move_from_a_unit : asks (codes "MCW  ") (codes "%U1,AREA,R ")
    ≡ whole (byte "M") two_and_d (unit (codes "%U1")) (the (codes "AREA")) (Some (byte "R"))
unfolding asks
a_move_from_a_unit = refl

a_load_from_a_unit : asks (codes "LU   ") (codes "%B2,AREA,W ")
    ≡ whole (byte "L") two_and_d (unit (codes "%B2")) (the (codes "AREA")) (Some (byte "W"))
unfolding asks
a_load_from_a_unit = refl

a_unit_is_controlled : asks (codes "CU   ") (codes "%U2,R ")
    ≡ whole (byte "U") one_and_d (unit (codes "%U2")) fields.Absent (Some (byte "R"))
unfolding asks
a_unit_is_controlled = refl

a_tape_is_read : map (asks (codes "RT   ")) (codes "1,AREA " ∷ codes "%U1,AREA " ∷ [])
    ≡ replicate 2
    (whole (byte "M") (form 2 2 (d.Fixed (byte "R"))) (unit (codes "%U1")) (the (codes "AREA")) (Some (byte "R")))
unfolding asks
a_tape_is_read = refl

a_tape_is_written_with_word_marks : asks (codes "WTW  ") (codes "6,AREA ")
    ≡ whole (byte "L") (form 2 2 (d.Fixed (byte "W"))) (unit (codes "%U6")) (the (codes "AREA")) (Some (byte "W"))
unfolding asks
a_tape_is_written_with_word_marks = refl

a_tape_is_read_in_binary : asks (codes "RTB  ") (codes "3,AREA ")
    ≡ whole (byte "M") (form 2 2 (d.Fixed (byte "R"))) (unit (codes "%B3")) (the (codes "AREA")) (Some (byte "R"))
unfolding asks
a_tape_is_read_in_binary = refl

a_tape_is_moved : map (λ (mnemonic : List ℕ). asks mnemonic (codes "2 ")) (codes "BSP  " ∷ codes "SKP  " ∷ codes "RWD  "
    ∷ codes "RWU  " ∷ codes "WTM  " ∷ [])
    ≡ map (λ (graphic : ℕ).
    whole (byte "U") (form 1 1 (d.Fixed graphic)) (unit (codes "%U2")) fields.Absent (Some graphic)) (codes "BERUM")
unfolding asks
a_tape_is_moved = refl

a_program_is_entered : asks (codes "XFR  ") (codes "GO ") ≡ bodies.Transfer (record {
  a = the (codes "GO");
  b = fields.Absent;
  d = None;
  is_whole = true;
})
unfolding asks
a_program_is_entered = refl

-- column 21 is of the machine that assembles
sizes_of_core : map (asks (codes "CTL  ")) (codes "61 " ∷ codes " 2 " ∷ codes "33,1 " ∷ codes "  4" ∷ codes "37 " ∷ [])
    ≡ map bodies.Control (sizes.Size 1400 ∷ sizes.Size 2000 ∷ sizes.Size 4000 ∷ sizes.Absent ∷ sizes.Malformed ∷ [])
unfolding asks
sizes_of_core = refl

suffixes_of_symbols : map (asks (codes "SFX  ")) (codes "A " ∷ codes "7" ∷ codes " A" ∷ codes "AB"
    ∷ codes "A,B" ∷ codes "," ∷ [])
    ≡ map bodies.Suffix (suffixes.Suffix (byte "A") ∷ suffixes.Suffix (byte "7") ∷ suffixes.Absent
    ∷ replicate 3 suffixes.Malformed)
unfolding asks
suffixes_of_symbols = refl

how_often_an_operation_is_repeated : map (asks (codes "CHAIN")) (codes "1 " ∷ codes "99 again" ∷ codes "0 "
    ∷ codes "100 " ∷ codes "2,2 " ∷ codes "  " ∷ [])
    ≡ map (λ (count : Option ℕ). bodies.Chain (record { operation = None; count = count }))
    (Some 1 ∷ Some 99 ∷ replicate 4 None)
unfolding asks
how_often_an_operation_is_repeated = refl

a_symbol_may_name_a_unit : asks (codes "CU   ") (codes "TAPE,R ") ∷ asks (codes "BSP  ") (codes "TAPE ") ∷ []
    ≡ whole (byte "U") one_and_d (the (codes "TAPE")) fields.Absent (Some (byte "R"))
    ∷ whole (byte "U") (form 1 1 (d.Fixed (byte "B"))) (the (codes "TAPE")) fields.Absent (Some (byte "B")) ∷ []
unfolding asks
a_symbol_may_name_a_unit = refl

-- whether the operands of an operation aren't as it asks
bad : List ℕ → List ℕ → Bool
unfolding asks
bad operation columns = has_bad_operands (asks operation columns)

-- a unit stands where the mnemonic has one, and first of all
no_units_here : bad (codes "A    ") (codes "%U1,5 ") ∷ bad (codes "MCW  ") (codes "%U1,AREA ")
    ∷ bad (codes "MCW  ") (codes "AREA,%U1,R ") ∷ bad (codes "NOP  ") (codes "%U1,AREA,R ")
    ∷ bad (codes "MU   ") (codes "5,AREA,R ") ∷ bad (codes "CU   ") (codes "1,R ")
    ∷ bad (codes "RT   ") (codes "%B1,AREA ")
    ∷ bad (codes "RTB  ") (codes "%U1,AREA ") ∷ bad (codes "BSP  ") (codes "12 ") ∷ bad (codes "WTM  ") (codes "  ")
    ∷ bad (codes "RT   ") (codes "1 ") ∷ bad (codes "CU   ") (codes "TAPE+1,R ") ∷ bad (codes "RT   ") (codes "X1,AREA ")
    ∷ bad (codes "MU   ") (codes "+TAPE,AREA,R ") ∷ []
    ≡ replicate 14 true
unfolding bad
no_units_here = refl
