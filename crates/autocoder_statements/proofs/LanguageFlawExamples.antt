-- Columns at fault in the wider language, computed.
use Rattle.std.proofs.Common.{◌≡◌, ℕ, List, [], ◌∷◌, ◌++◌, Option, Some, None, refl}
use Rattle.std.specs.Prelude.{codes}
use Rattle.bcd_1401.specs.Graphic.{graphics}
use Rattle.autocoder_statements.specs.Flaw.{stretch}
use Rattle.autocoder_statements.specs.LanguageFlaw.{is_wide_operation, nearest_wide_mnemonic, columns_in_language}
use Rattle.autocoder_statements.specs.LanguageFlaw.{wider_columns, wide_flaw_of, wide_foreign_column}
use Rattle.autocoder_statements.specs.LanguageFlaw.{wide_operation_flaw}
use Rattle.autocoder_statements.specs.Mnemonic.{instructions, assembler_operations}
use Rattle.autocoder_statements.specs.SourceLine.{columns_of}
use Rattle.autocoder_statements.specs.WideMnemonic.{wide_instructions}
use Rattle.autocoder_statements.specs.WideOperation.{wide_operations}
use Rattle.autocoder_statements.specs.declared.flaw.Flaw.{Flaw}
use Rattle.autocoder_statements.specs.declared.flaw.OperandFlaw.{OperandFlaw}
use Rattle.autocoder_statements.specs.declared.flaw.OperandFlaw.TheVariants as flaws
use Rattle.autocoder_statements.specs.declared.flaw.OperationFlaw.{OperationFlaw}
use Rattle.autocoder_statements.specs.declared.flaw.OperationFlaw.TheVariants as operation_flaws
use Rattle.autocoder_statements.specs.declared.language.Language.TheVariants as languages

-- the columns of a line as the wider language reads them, with all tables open
read : List ℕ → List ℕ
unfolding columns_of instructions assembler_operations graphics wider_columns
read line = columns_in_language languages.Ibm line

a_sound_line_keeps_its_ampersand : read (codes "               b    x,&") ≡ columns_of (codes "               B    X,&")
unfolding read columns_of
a_sound_line_keeps_its_ampersand = refl

others_have_plus_signs : read (codes "               a    &5,x,&") ≡ columns_of (codes "               A    +5,X,&")
unfolding read columns_of
others_have_plus_signs = refl

-- what is wrong with an operation and its operands
flaw : List ℕ → List ℕ → Option Flaw
unfolding instructions assembler_operations wide_instructions wide_operations
flaw operation operands = wide_flaw_of operation operands

at : ℕ → ℕ → OperandFlaw → Option Flaw
at column length kind = Some (record { columns = stretch column length; kind = kind })

another_assembler : flaw (codes "ENT  ") (codes "SPS  ") ≡ at 21 3 flaws.NoAssembler
unfolding flaw at
another_assembler = refl

a_fourth_operand : flaw (codes "B    ") (codes "A,B,C,D ") ≡ at 24 4 flaws.TooMuch
unfolding flaw at
a_fourth_operand = refl

no_second_address : flaw (codes "BBE  ") (codes "A ") ≡ at 22 0 flaws.AddressMissing
unfolding flaw at
no_second_address = refl

no_tape : flaw (codes "RT   ") (codes "%B1,AREA ") ≡ at 21 3 flaws.NoTape
unfolding flaw at
no_tape = refl

no_tape_at_all : flaw (codes "WTM  ") (codes "   ") ≡ at 21 0 flaws.NoTape
unfolding flaw at
no_tape_at_all = refl

no_unit : flaw (codes "CU   ") (codes "2,R ") ≡ at 21 1 flaws.NoUnit
unfolding flaw at
no_unit = refl

no_address_beyond_a_tape : flaw (codes "RT   ") (codes "1,2X ") ≡ at 23 2 flaws.NoAddress
unfolding flaw at
no_address_beyond_a_tape = refl

no_address_at_all_beyond_a_tape : flaw (codes "WT   ") (codes "1 ") ≡ at 22 0 flaws.AddressMissing
unfolding flaw at
no_address_at_all_beyond_a_tape = refl

a_unit_without_d_character : flaw (codes "MCW  ") (codes "%U1,AREA ") ≡ at 29 0 flaws.CharacterMissing
unfolding flaw at
a_unit_without_d_character = refl

a_unit_in_place_of_an_address : flaw (codes "A    ") (codes "%U1,5 ") ≡ at 21 3 flaws.NoAddress
unfolding flaw at
a_unit_in_place_of_an_address = refl

no_size : flaw (codes "CTL  ") (codes "37 ") ≡ at 22 1 flaws.NoSize
unfolding flaw at
no_size = refl

a_lone_place_of_a_field : flaw (codes "     ") (codes "6 ") ≡ at 21 1 flaws.NoSpan
unfolding flaw at
a_lone_place_of_a_field = refl

the_last_place_of_a_field : flaw (codes "     ") (codes "3,9 ") ≡ at 23 1 flaws.NoSpan
unfolding flaw at
the_last_place_of_a_field = refl

no_suffix : flaw (codes "SFX  ") (codes "AB ") ≡ at 21 2 flaws.NoSuffix
unfolding flaw at
no_suffix = refl

two_suffixes : flaw (codes "SFX  ") (codes "A,B ") ≡ at 22 2 flaws.TooMuch
unfolding flaw at
two_suffixes = refl

no_times : flaw (codes "CHAIN") (codes "100 ") ≡ at 21 3 flaws.NoTimes
unfolding flaw at
no_times = refl

an_entry_with_an_index_register : flaw (codes "XFR  ") (codes "GO+X1 ") ≡ at 21 5 flaws.NoValue
unfolding flaw at
an_entry_with_an_index_register = refl

options_twice : flaw (codes "DA   ") (codes "2X5,G,G ") ≡ at 25 3 flaws.NoOptions
unfolding flaw at
options_twice = refl

two_index_registers_of_fields : flaw (codes "DA   ") (codes "2X5,X1,X2 ") ≡ at 25 5 flaws.NoOptions
unfolding flaw at
two_index_registers_of_fields = refl

literals_at_no_place : flaw (codes "LTORG") (codes "*+X1 ") ≡ at 21 4 flaws.NoValue
unfolding flaw at
literals_at_no_place = refl

literals_at_two_places : flaw (codes "LTORG") (codes "600,1 ") ≡ at 24 2 flaws.TooMuch
unfolding flaw at
literals_at_two_places = refl

a_literal_for_a_label : flaw (codes "EQU  ") (codes "+5 ") ≡ at 21 2 flaws.Literal
unfolding flaw at
a_literal_for_a_label = refl

a_literal_for_the_next_place : flaw (codes "ORG  ") (codes "+TAG-1,5 ") ≡ at 21 6 flaws.NoValue
unfolding flaw at
a_literal_for_the_next_place = refl

an_area_as_an_address : flaw (codes "DSA  ") (codes "TAG#3 ") ≡ at 21 5 flaws.Literal
unfolding flaw at
an_area_as_an_address = refl

an_adjustment_beyond_an_area : flaw (codes "A    ") (codes "TAG#3+1,5 ") ≡ at 21 7 flaws.NoAddress
unfolding flaw at
an_adjustment_beyond_an_area = refl

an_area_of_too_many_places : flaw (codes "MLNS ") (codes "5,TAG#51 ") ≡ at 23 6 flaws.NoAddress
unfolding flaw at
an_area_of_too_many_places = refl

something_beyond_literals : flaw (codes "A    ") (codes "TAG#3,+TAB,1 ") ≡ at 31 2 flaws.TooMuch
unfolding flaw at
something_beyond_literals = refl

options_without_areas : flaw (codes "DA   ") (codes "X5,G ") ≡ at 21 2 flaws.NoAreas
unfolding flaw at
options_without_areas = refl

something_beyond_the_next_hundred : flaw (codes "ORG  ") (codes "*+X00,5 ") ≡ at 26 2 flaws.TooMuch
unfolding flaw at
something_beyond_the_next_hundred = refl

a_next_place_with_an_index_register : flaw (codes "ORG  ") (codes "*+X1 ") ≡ at 21 4 flaws.NoValue
unfolding flaw at
a_next_place_with_an_index_register = refl

a_hundred_for_a_label : flaw (codes "EQU  ") (codes "*+X00 ") ≡ at 21 5 flaws.NoAddress
unfolding flaw at
a_hundred_for_a_label = refl

two_ends : flaw (codes "END  ") (codes "5,6 ") ≡ at 22 2 flaws.TooMuch
unfolding flaw at
two_ends = refl

a_literal_as_an_address : flaw (codes "DSA  ") (codes "+5 ") ≡ at 21 2 flaws.Literal
unfolding flaw at
a_literal_as_an_address = refl

two_addresses_in_a_constant : flaw (codes "DSA  ") (codes "UNDEF,1 ") ≡ at 26 2 flaws.TooMuch
unfolding flaw at
two_addresses_in_a_constant = refl

a_number_with_an_index_register : flaw (codes "DCW  ") (codes "+5+X1 ") ≡ at 21 5 flaws.NoConstant
unfolding flaw at
a_number_with_an_index_register = refl

something_beyond_an_address : flaw (codes "DC   ") (codes "-TAB,1 ") ≡ at 25 2 flaws.TooMuch
unfolding flaw at
something_beyond_an_address = refl

-- what is wrong with columns for an operation
operation_at : List ℕ → OperationFlaw
unfolding instructions assembler_operations wide_instructions wide_operations is_wide_operation nearest_wide_mnemonic
operation_at columns = wide_operation_flaw columns

a_heading_in_the_next_column : operation_at (codes " JOB ") ≡ operation_flaws.Displaced
unfolding operation_at
a_heading_in_the_next_column = refl

two_are_near_and_the_first_is_told : operation_at (codes "MLCW ") ≡ operation_flaws.Unknown (Some (codes "MLC  "))
unfolding operation_at
two_are_near_and_the_first_is_told = refl

nearly_a_chain : operation_at (codes "CHAN ") ≡ operation_flaws.Unknown (Some (codes "CHAIN"))
unfolding operation_at
nearly_a_chain = refl

nearly_another_row : operation_at (codes "MRCN ") ≡ operation_flaws.Unknown (Some (codes "MRCM "))
unfolding operation_at
nearly_another_row = refl

-- the first column with a byte that can't be there
foreign : List ℕ → Option ℕ
unfolding columns_of graphics
foreign line = wide_foreign_column (columns_of line)

a_tab_in_a_heading : foreign (codes "               JOB  {" ++ 9 ∷ []) ≡ Some 22
unfolding foreign
a_tab_in_a_heading = refl

a_heading_without_fault : foreign (codes "               JOB  {A}") ≡ None
unfolding foreign
a_heading_without_fault = refl
