-- Lines with their neighbours, computed.
use Rattle.std.proofs.Common.{◌≡◌, ℕ, Bool, true, false, List, [], ◌∷◌, ◌++◌, map, drop, replicate, Option, Some, None}
use Rattle.std.proofs.Common.{refl}
use Rattle.std.specs.Prelude.{ℤ, pos, codes}
use Rattle.std.specs.Option.{option_map}
use Rattle.std.specs.Str.{byte}
use Rattle.bcd_1401.specs.Graphic.{graphics}
use Rattle.autocoder_statements.specs.AreaLiterals.{DeclaredAreas, areas_of_line, no_areas}
use Rattle.autocoder_statements.specs.Context.{lines_said, size_asked}
use Rattle.autocoder_statements.specs.Description.{describe, operands_in}
use Rattle.autocoder_statements.specs.Heading.{system_cards}
use Rattle.autocoder_statements.specs.Language.{is_sound, wider_line}
use Rattle.autocoder_statements.specs.Mnemonic.{instructions, assembler_operations}
use Rattle.autocoder_statements.specs.SourceLine.{columns_of}
use Rattle.autocoder_statements.specs.Statement.{label_of_line}
use Rattle.autocoder_statements.specs.WideMnemonic.{wide_instructions}
use Rattle.autocoder_statements.specs.WideOperation.{wide_operations}
use Rattle.autocoder_statements.specs.WideStatement.{wide_line_with}
use Rattle.autocoder_statements.specs.declared.address.Base.{Base}
use Rattle.autocoder_statements.specs.declared.address.Base.TheVariants as bases
use Rattle.autocoder_statements.specs.declared.label.Label.{Label}
use Rattle.autocoder_statements.specs.declared.literal.AreaLiteral.{AreaLiteral}
use Rattle.autocoder_statements.specs.declared.language.Language.TheVariants as languages
use Rattle.autocoder_statements.specs.declared.literal.Literal.{Literal}
use Rattle.autocoder_statements.specs.declared.literal.Literal.TheVariants as literals
use Rattle.autocoder_statements.specs.declared.operands.Operand.{Operand}
use Rattle.autocoder_statements.specs.declared.operands.Operand.TheVariants as operands
use Rattle.autocoder_statements.specs.declared.operands.OperandField.{OperandField}
use Rattle.autocoder_statements.specs.declared.operands.OperandField.TheVariants as fields
use Rattle.autocoder_statements.specs.declared.operands.Operands.{Operands}
use Rattle.autocoder_statements.specs.declared.statement.Body.{Body}
use Rattle.autocoder_statements.specs.declared.statement.Body.TheVariants as bodies
use Rattle.autocoder_statements.specs.declared.statement.Line.{Line}
use Rattle.autocoder_statements.specs.declared.statement.SizeField.TheVariants as sizes
use Rattle.autocoder_statements.specs.declared.statement.Span.{Span}
use Rattle.autocoder_statements.specs.declared.statement.Statement.{Statement}

-- what lines say together in the wider language, with all tables open
said : List (List ℕ) → List Line
unfolding columns_of instructions assembler_operations wide_instructions wide_operations graphics wider_line
    wide_line_with system_cards
said texts = lines_said languages.Ibm texts

body_in : Line → Option Body
body_in line = option_map (λ (statement : Statement). statement.body) line.statement

base_in_literal : Literal → Option Base
base_in_literal (literals.Constant constant) = None
base_in_literal (literals.Address literal) = Some literal.address.base
base_in_literal (literals.Area area) = Some (bases.Symbol area.label)

base_in : Operand → Option Base
unfolding base_in_literal
base_in (operands.Address address) = Some address.base
base_in (operands.Literal literal) = base_in_literal literal
base_in (operands.Unit unit) = None

base_at : OperandField → Option Base
base_at fields.Absent = None
base_at fields.Malformed = None
base_at (fields.Operand operand) = base_in operand

base_by : Option Body → Option Base
base_by None = None
base_by (Some body) = base_at (operands_in (describe body).addressing).a

-- the base of the first address of a line
base_of_line : Line → Option Base
base_of_line line = base_by (body_in line)

-- the labels of lines, and the bases of their first addresses
labels_said : List (List ℕ) → List (Option Label)
unfolding said
labels_said texts = map label_of_line (said texts)

bases_said : List (List ℕ) → List (Option Base)
unfolding said body_in base_in_literal base_in base_at base_by base_of_line
bases_said texts = map base_of_line (said texts)

bodies_said : List (List ℕ) → List (Option Body)
unfolding said body_in
bodies_said texts = map body_in (said texts)

sound_said : List (List ℕ) → List Bool
unfolding said
sound_said texts = map is_sound (said texts)

areas_said : List (List ℕ) → List DeclaredAreas
unfolding said
areas_said texts = map areas_of_line (said texts)

abbrev label : List ℕ → Option Label
label text = Some (record { text = text })

abbrev symbol : List ℕ → Option Base
symbol text = Some (bases.Symbol (record { text = text }))

-- two sections with labels of their own
abbrev sections : List (List ℕ)
sections =
    codes "               SFX  A" ∷
    codes "     LOOP      B    LOOP" ∷
    codes "     ENTRY     B    LOOP" ∷
    codes "               SFX  B" ∷
    codes "     LOOP      B    ENTRYA" ∷
    codes "               SFX" ∷
    codes "     LOOP      EX   LOOP" ∷ []

short_labels_have_the_suffix : labels_said sections
    ≡ None ∷ label (codes "LOOP A") ∷ label (codes "ENTRYA") ∷ None ∷ label (codes "LOOP B") ∷ None
    ∷ label (codes "LOOP  ") ∷ []
unfolding labels_said
short_labels_have_the_suffix = refl

short_symbols_have_the_suffix : bases_said sections
    ≡ None ∷ symbol (codes "LOOP A") ∷ symbol (codes "LOOP A") ∷ None ∷ symbol (codes "ENTRYA") ∷ None
    ∷ symbol (codes "LOOP  ") ∷ []
unfolding bases_said
short_symbols_have_the_suffix = refl

a_malformed_suffix_changes_nothing : labels_said (codes "               SFX  A" ∷ codes "               SFX  AB"
    ∷ codes "     TAG       H" ∷ codes "     BAD       SFX  C" ∷ codes "     TAG       H" ∷ [])
    ≡ None ∷ None ∷ label (codes "TAG  A") ∷ label (codes "BAD  A") ∷ label (codes "TAG  C") ∷ []
unfolding labels_said
a_malformed_suffix_changes_nothing = refl

-- X1 to X3 have no suffix, and are index registers if they are no labels
registers_have_no_suffix : bases_said (codes "               SFX  A" ∷ codes "               ZS   X1"
    ∷ codes "     X2        EQU  89" ∷ codes "               ZS   X2" ∷ [])
    ≡ None ∷ Some (bases.Register 1) ∷ Some (bases.Number 89) ∷ symbol (codes "X2    ") ∷ []
unfolding bases_said
registers_have_no_suffix = refl

a_label_below_makes_a_symbol : bases_said (codes "               ZS   X3" ∷ codes "     X3        DCW  000" ∷ [])
    ≡ symbol (codes "X3    ") ∷ None ∷ []
unfolding bases_said
a_label_below_makes_a_symbol = refl

-- the symbols of literals too, but for X1 to X3
symbols_of_literals_have_the_suffix : bases_said (codes "               SFX  A" ∷ codes "               A    +TAG-2+X1,5"
    ∷ codes "               A    TAG#3" ∷ codes "               A    -X1" ∷ codes "               A    X3#2"
    ∷ codes "               A    +LABELS" ∷ [])
    ≡ None ∷ symbol (codes "TAG  A") ∷ symbol (codes "TAG  A") ∷ Some (bases.Register 1) ∷ symbol (codes "X3    ")
    ∷ symbol (codes "LABELS") ∷ []
unfolding bases_said
symbols_of_literals_have_the_suffix = refl

abbrev area : List ℕ → ℕ → Option AreaLiteral
area text places = Some (record { label = record { text = text }; places = places })

-- whatever else is wrong with the line, but a byte that can't stand in its column
areas_are_declared_by_instructions : areas_said (codes "               SFX  A" ∷ codes "               A    TAG#3,BUF#50"
    ∷ codes "     1         B    TAG#4,5,6,7" ∷ codes "               A    5,X1#2" ∷ codes "               ORG  TAG#3"
    ∷ (codes "               A    TAG#3 " ++ 9 ∷ []) ∷ (codes "               A    TAG#3 " ++ replicate 80 32) ∷ [])
    ≡ no_areas ∷ (area (codes "TAG  A") 3, area (codes "BUF  A") 50) ∷ (area (codes "TAG  A") 4, None)
    ∷ (None, area (codes "X1    ") 2) ∷ no_areas ∷ no_areas ∷ (area (codes "TAG  A") 3, None) ∷ []
unfolding areas_said
areas_are_declared_by_instructions = refl

an_area_makes_a_symbol : bases_said (codes "               ZS   X2" ∷ codes "               A    +X2"
    ∷ codes "               A    5,X2#3" ∷ [])
    ≡ symbol (codes "X2    ") ∷ symbol (codes "X2    ") ∷ Some (bases.Number 5) ∷ []
unfolding bases_said
an_area_makes_a_symbol = refl

an_area_with_a_tab_makes_none : bases_said (codes "               ZS   X2" ∷ (codes "               A    X2#3 " ++ 9 ∷ [])
    ∷ [])
    ≡ Some (bases.Register 2) ∷ symbol (codes "X2    ") ∷ []
unfolding bases_said
an_area_with_a_tab_makes_none = refl

-- the symbols of constants, of ORG, EQU, EX and END
symbols_of_all_have_the_suffix : bases_said (codes "               SFX  A" ∷ codes "     TAB       DSA  TAB+X3"
    ∷ codes "               DC   -TAB" ∷ codes "     BACK      ORG  TAB" ∷ codes "     L         EQU  TAB+X1"
    ∷ codes "     L         EX   TAB" ∷ codes "     L         END  TAB" ∷ [])
    ≡ None ∷ replicate 6 (symbol (codes "TAB  A"))
unfolding bases_said
symbols_of_all_have_the_suffix = refl

a_label_below_makes_a_symbol_of_a_constant : bases_said (codes "               DSA  X1"
    ∷ codes "     X1        EQU  *" ∷ codes "     X2        ORG  *+X00" ∷ codes "               DCW  +X2" ∷ [])
    ≡ symbol (codes "X1    ") ∷ Some bases.Here ∷ Some bases.NextHundred ∷ symbol (codes "X2    ") ∷ []
unfolding bases_said
a_label_below_makes_a_symbol_of_a_constant = refl

abbrev chain : Option ℕ → Option ℕ → Option Body
chain operation count = Some (bodies.Chain (record { operation = operation; count = count }))

-- a comment, or another chain, may stand between a chain and its operation, whose operands may be at fault
chains_repeat_the_operation_above : drop 1 (bodies_said (codes "               MLNS UNDEF,"
    ∷ codes "               CHAIN2"
    ∷ codes "     * a comment" ∷ codes "               CHAIN99" ∷ []))
    ≡ chain (Some (byte "D")) (Some 2) ∷ None ∷ chain (Some (byte "D")) (Some 99) ∷ []
unfolding bodies_said
chains_repeat_the_operation_above = refl

nothing_is_repeated_below_a_constant : drop 1 (bodies_said (codes "     TAG       DCW  #3"
    ∷ codes "               CHAIN2" ∷ []))
    ≡ chain None (Some 2) ∷ []
unfolding bodies_said
nothing_is_repeated_below_a_constant = refl

nothing_is_repeated_below_the_next_place : drop 2 (bodies_said (codes "               H"
    ∷ codes "     BACK      ORG  *"
    ∷ codes "               CHAIN2" ∷ []))
    ≡ chain None (Some 2) ∷ []
unfolding bodies_said
nothing_is_repeated_below_the_next_place = refl

nothing_is_repeated_below_literals : drop 2 (bodies_said (codes "               H" ∷ codes "               LTORG*"
    ∷ codes "               CHAIN2" ∷ []))
    ≡ chain None (Some 2) ∷ []
unfolding bodies_said
nothing_is_repeated_below_literals = refl

nothing_is_repeated_below_a_heading : drop 2 (bodies_said (codes "               H" ∷ codes "               JOB  PART 2"
    ∷ codes "               CHAIN100" ∷ []))
    ≡ chain None None ∷ []
unfolding bodies_said
nothing_is_repeated_below_a_heading = refl

-- the first CTL counts, whatever is wrong with it
a_second_control_is_none : bodies_said (codes "     L         CTL  37" ∷ codes "               CTL  66"
    ∷ codes "               CTL" ∷ [])
    ≡ Some (bodies.Control sizes.Malformed) ∷ Some bodies.SecondControl ∷ Some bodies.SecondControl ∷ []
unfolding bodies_said
a_second_control_is_none = refl

abbrev areas : Bool → Option Body
areas has_group_mark =
    Some (bodies.Areas (Some (record {
      count = 2;
      length = 5;
      has_group_mark = has_group_mark;
      has_record_marks = false;
      index = 0;
      counts_from_zero = false;
    })))

abbrev span : ℕ → ℕ → Bool → Option Span
span first last is_marked = Some (record { first = first; last = last; is_marked = is_marked })

-- what the plain language takes is read by it, and other fields by the wider one
fields_of_both_languages : bodies_said (codes "     REC       DA   2X5,G" ∷ codes "     KEY            1,2"
    ∷ codes "     LOW            4"
    ∷ codes "                    5,5" ∷ codes "     REC       DA   2X5" ∷ [])
    ≡ areas true ∷ Some (bodies.Field (span 1 2 true)) ∷ Some (bodies.WideField (span 4 4 false))
    ∷ Some (bodies.WideField (span 5 5 true)) ∷ areas false ∷ []
unfolding bodies_said
fields_of_both_languages = refl

-- an address from a base, as the only operand
abbrev only : Base → ℤ → Operands
only base adjustment =
    record {
      a = fields.Operand (operands.Address (record { base = base; adjustment = adjustment; index = None }));
      b = fields.Absent;
      d = None;
      is_whole = true;
    }

-- a program that comes back to where it was
the_assembler_controlled_in_both_languages : bodies_said (codes "               ORG  340"
    ∷ codes "     HERE      EQU  *+1"
    ∷ codes "     LATER     EQU  500"
    ∷ codes "     BACK      ORG  *+X00"
    ∷ codes "               ORG  BACK"
    ∷ codes "               EX   *"
    ∷ codes "               XFR  BACK"
    ∷ codes "               END" ∷ [])
    ≡ map Some (bodies.Origin (only (bases.Number 340) (pos 0))
    ∷ bodies.WideEquate (only bases.Here (pos 1))
    ∷ bodies.Equate (only (bases.Number 500) (pos 0))
    ∷ bodies.LabelledOrigin (only bases.NextHundred (pos 0))
    ∷ bodies.Origin (only (bases.Symbol (record { text = codes "BACK  " })) (pos 0))
    ∷ bodies.WideExecute (only bases.Here (pos 0))
    ∷ bodies.Transfer (only (bases.Symbol (record { text = codes "BACK  " })) (pos 0))
    ∷ bodies.WideEnd (record { a = fields.Absent; b = fields.Absent; d = None; is_whole = true }) ∷ [])
unfolding bodies_said
the_assembler_controlled_in_both_languages = refl

these_are_at_fault_by_themselves : sound_said (codes "               ORG  *+X1" ∷ codes "               DA   1X5,G,G"
    ∷ codes "               DSA  UNDEF,1" ∷ codes "               DCW  +5+X1" ∷ codes "               EQU  *"
    ∷ codes "                    5,4" ∷ codes "     L         EX   *" ∷ codes "     L         END" ∷ [])
    ≡ replicate 8 false
unfolding sound_said
these_are_at_fault_by_themselves = refl

-- a program that places its literals at two places
abbrev placed : List (List ℕ)
placed =
    codes "               ORG  500" ∷
    codes "     GO        A    +1,9" ∷
    codes "               XFR  GO" ∷
    codes "               LTORG*" ∷
    codes "               EX   GO" ∷
    codes "               A    +1,9" ∷
    codes "               END  GO" ∷ []

nothing_is_wrong_with_placed : sound_said placed ≡ replicate 7 true
unfolding sound_said
nothing_is_wrong_with_placed = refl

-- a program with addresses as literals and as constants
abbrev addressed : List (List ℕ)
addressed =
    codes "               ORG  500" ∷
    codes "     GO        MCW  +TAB,X1" ∷
    codes "               MCW  SUM#3,SUM" ∷
    codes "               A    -TAB+1,X1" ∷
    codes "     TAB       DCW  @ABC@" ∷
    codes "     BASE      LTORG600" ∷
    codes "               DSA  TAB+X3" ∷
    codes "               DC   -TAB" ∷
    codes "               ORG  BASE" ∷
    codes "               H    SUM-2" ∷
    codes "               END  GO" ∷ []

nothing_is_wrong_with_addressed : sound_said addressed ≡ replicate 11 true
unfolding sound_said
nothing_is_wrong_with_addressed = refl

-- a record and its keys
abbrev recorded : List (List ℕ)
recorded =
    codes "               ORG  700" ∷
    codes "     REC       DA   2X5,X1,0,G" ∷
    codes "     KEY            1,2" ∷
    codes "     LOW            4" ∷
    codes "                    5,5" ∷
    codes "     TAB       EQU  REC-2+X2" ∷
    codes "               A    KEY,LOW+X0" ∷
    codes "               MCW  REC,KEY+X2" ∷
    codes "               END" ∷ []

nothing_is_wrong_with_recorded : sound_said recorded ≡ replicate 9 true
unfolding sound_said
nothing_is_wrong_with_recorded = refl

-- with all tables open
size_said : List ℕ → Option ℕ
unfolding columns_of instructions assembler_operations wide_instructions wide_operations graphics wider_line
    wide_line_with system_cards
size_said source = size_asked languages.Ibm source

sizes_that_are_asked_for : map size_said (codes "               ctl  66"
    ∷ (codes "     * PAYROLL" ++ 10 ∷ codes "               CTL  13")
    ∷ (codes "               CTL" ++ 10 ∷ codes "               CTL  66") ∷ codes "               CTL  37"
    ∷ codes "               H" ∷ [])
    ≡ Some 16000 ∷ Some 4000 ∷ None ∷ None ∷ None ∷ []
unfolding size_said
sizes_that_are_asked_for = refl

the_plain_language_asks_for_none : size_asked languages.Plain (codes "               CTL  66") ≡ None
the_plain_language_asks_for_none = refl

these_are_at_fault : sound_said (codes "               CTL  66" ∷ codes "               CTL  66"
    ∷ codes "     L         XFR  0" ∷ codes "               CHAIN2" ∷ codes "               H"
    ∷ codes "               CHAIN2" ∷ codes "               CHAIN0"
    ∷ codes "     L         SFX  A" ∷ codes "               SFX  -" ∷ codes "               SFX  A,B" ∷ [])
    ≡ true ∷ replicate 3 false ++ true ∷ true ∷ replicate 4 false
unfolding sound_said
these_are_at_fault = refl

-- a source of its time, up to END
abbrev wages : List (List ℕ)
wages =
    codes "               job  Wages, March 1962" ∷
    codes "               ctl  66" ∷
    codes "     x1        equ  89" ∷
    codes "               org  500" ∷
    codes "     start     zs   x1" ∷
    codes "               mcw  tab+x1,x2" ∷
    codes "               mcw  &1,x1+1" ∷
    codes "     tab       dcw  @ab@" ∷ []

nothing_is_wrong_with_wages : sound_said wages ≡ replicate 8 true
unfolding sound_said
nothing_is_wrong_with_wages = refl

wages_are_by_symbols : bases_said wages
    ≡ None ∷ None ∷ Some (bases.Number 89) ∷ Some (bases.Number 500) ∷ symbol (codes "X1    ") ∷ symbol (codes "TAB   ")
    ∷ None ∷ None ∷ []
unfolding bases_said
wages_are_by_symbols = refl
