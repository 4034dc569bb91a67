-- Sources in which EQU names what only lines below it declare, their chains and their faults, worked out by hand.
use Rattle.std.proofs.Common.{◌≡◌, ℕ, true, List, [], ◌∷◌, ◌++◌, neg_ℤ, pos, Option, None, Some, refl}
use Rattle.std.specs.Prelude.{codes}
use Rattle.bcd_1401.specs.Graphic.{graphics}
use Rattle.autocoder_statements.specs.Flaw.{stretch}
use Rattle.autocoder_statements.specs.Heading.{system_cards}
use Rattle.autocoder_statements.specs.Language.{wider_line}
use Rattle.autocoder_statements.specs.LanguageFlaw.{wider_columns}
use Rattle.autocoder_statements.specs.Mnemonic.{instructions, assembler_operations}
use Rattle.autocoder_statements.specs.SourceLine.{columns_of, lines_of}
use Rattle.autocoder_statements.specs.WideMnemonic.{wide_instructions}
use Rattle.autocoder_statements.specs.WideOperation.{wide_operations}
use Rattle.autocoder_statements.specs.WideStatement.{wide_line_with}
use Rattle.autocoder_statements.specs.declared.label.LabelField.{LabelField}
use Rattle.autocoder_statements.specs.declared.label.LabelField.TheVariants as labels
use Rattle.autocoder_statements.specs.declared.language.Language.TheVariants.{Ibm}
use Rattle.autocoder_statements.specs.declared.literal.Literal.TheVariants as literals
use Rattle.autocoder_statements.specs.declared.mnemonic.DCharacter.TheVariants as d
use Rattle.autocoder_statements.specs.declared.operands.Operand.TheVariants as operands
use Rattle.autocoder_statements.specs.declared.operands.OperandField.{OperandField}
use Rattle.autocoder_statements.specs.declared.operands.OperandField.TheVariants as fields
use Rattle.autocoder_statements.specs.declared.statement.Body.TheVariants as bodies
use Rattle.autocoder_statements.specs.declared.statement.Line.{Line}
use Rattle.autocoder_statements.specs.declared.statement.LineCheck.TheVariants as bytes
use Rattle.autocoder_symbols.specs.Reading.{lines_in}
use Rattle.autocoder_symbols.specs.Chains.{chains_in, link_of}
use Rattle.autocoder_symbols.specs.Known.{declared_at, known_of}
use Rattle.autocoder_symbols.specs.Symbols.{sites_of}
use Rattle.autocoder_symbols.specs.declared.chains.Link.{Link}
use Rattle.autocoder_symbols.specs.declared.fault.AsmFault.{AsmFault}
use Rattle.autocoder_symbols.specs.declared.fault.AsmKind.{AsmKind}
use Rattle.autocoder_symbols.specs.declared.fault.AsmKind.TheVariants as kinds
use Rattle.autocoder_symbols.specs.declared.known.Known.{Known}
use Rattle.autocoder_symbols.specs.declared.known.Known.TheVariants as known
use Rattle.autocoder_diagnostics.specs.ToldFaults.{line_faults}
use Rattle.autocoder_diagnostics.specs.Explanation.{explained_lines}
use Rattle.autocoder_diagnostics.specs.declared.explanation.Cause.{Cause}
use Rattle.autocoder_diagnostics.specs.declared.explanation.Cause.TheVariants as causes
use Rattle.autocoder_diagnostics.specs.declared.explanation.Explanation.{Explanation}

-- what the lines of a source say, with all tables open
said : List ℕ → List Line
unfolding columns_of instructions assembler_operations wide_instructions wide_operations graphics wider_line
    wide_line_with system_cards
said source = lines_in Ibm source

told : List ℕ → List AsmFault
unfolding said
told source = line_faults Ibm (said source)

-- what is wrong with a source
wrong_in : List ℕ → List Explanation
unfolding columns_of instructions assembler_operations wide_instructions wide_operations graphics wider_line
    wide_line_with system_cards wider_columns
wrong_in source = explained_lines Ibm (lines_of source)

wrong : ℕ → AsmKind → ℕ → ℕ → Cause → Explanation
wrong line kind column length cause =
    record { fault = record { line = line; kind = kind }; columns = stretch column length; cause = cause }

-- what a symbol of a source stands for at the end of its chain: a symbol, what is added, and an index register
end_of : List ℕ → List ℕ → Option Link
unfolding said
end_of source symbol = link_of (chains_in Ibm (sites_of (said source)) (said source)) (record { text = symbol })

known_in : List ℕ → List ℕ → Option Known
unfolding said
known_in source symbol = known_of (declared_at Ibm (said source)) (record { text = symbol })

fault : ℕ → AsmKind → List AsmFault
fault line kind = record { line = line; kind = kind } ∷ []

-- each line names a label of the next
down : List ℕ
down =
    codes "     A         EQU  B+1\n     B         EQU  C+2+X1\n     C         EQU  D-4\n     D         DCW  #1\n"
    ++ codes "               END\n"

an_equ_names_later_labels : told down ≡ []
unfolding told said down
an_equ_names_later_labels = refl

-- A is D less 1, with B's index register, once D is known
its_end_is_the_last_label : end_of down (codes "A     ")
    ≡ Some (record { to = record { text = codes "D     " }; next = None; added = neg_ℤ (pos 1); index = Some 1; last = 3 })
unfolding end_of said down
its_end_is_the_last_label = refl

it_is_known_from_there_on : known_in down (codes "A     ") ≡ Some (known.From 4)
unfolding known_in said down
it_is_known_from_there_on = refl

-- an EQU of a label with a value begins no chain
up : List ℕ
up = codes "     D         DCW  #1\n     C         EQU  D+1\n     B         EQU  C+1\n               END\n"

a_value_is_no_link : end_of up (codes "B     ") ≡ None
unfolding end_of said up
a_value_is_no_link = refl

-- two that name one another have no value, nor has what leads to them
circle : List ℕ
circle =
    codes "     A         EQU  B\n     B         EQU  A+1\n     C         EQU  A\n     D         EQU  D\n"
    ++ codes "               END\n"

a_circle_never_ends : wrong_in circle
    ≡ wrong 1 kinds.Undefined 21 1 causes.EndlessChain ∷ wrong 2 kinds.Undefined 21 1 causes.EndlessChain
    ∷ wrong 3 kinds.Undefined 21 1 causes.EndlessChain ∷ wrong 4 kinds.Undefined 21 1 causes.EndlessChain ∷ []
unfolding wrong_in wrong circle
a_circle_never_ends = refl

-- ORG names a label above it whose chain goes on below it, and one whose chain doesn't
asked_early : List ℕ
asked_early =
    codes "     A         EQU  B\n               ORG  A\n     B         DCW  #1\n               ORG  A\n"
    ++ codes "               END\n"

org_asks_for_what_is_known : wrong_in asked_early ≡ wrong 2 kinds.Undefined 21 1 (causes.KnownLate 3) ∷ []
unfolding wrong_in wrong asked_early
org_asks_for_what_is_known = refl

-- a chain that leads to nothing is the fault of its last EQU alone
to_nothing : List ℕ
to_nothing =
    codes "     A         EQU  B\n     B         EQU  NOWHER\n               ORG  A\n     GO        H    A\n"
    ++ codes "               END\n"

its_last_line_is_at_fault : wrong_in to_nothing ≡ wrong 2 kinds.Undefined 21 6 (causes.Undeclared None) ∷ []
unfolding wrong_in wrong to_nothing
its_last_line_is_at_fault = refl

-- the label of EQU itself, and of ORG
mixed : List ℕ
mixed =
    codes "               ORG  340\n     GO        B    LATER\n     HERE      EQU  *+1\n               H    HERE\n"
    ++ codes "     LATER     EQU  EXIT+4\n     BACK      ORG  *+X00\n     EXIT      H\n               ORG  BACK\n"
    ++ codes "               END  LATER\n"

a_source_with_both : told mixed ≡ []
unfolding told said mixed
a_source_with_both = refl

-- lines by hand: a label, and an addition of area literals
line_of : LabelField → OperandField → OperandField → Line
line_of label a b =
    record {
      bytes = bytes.Good;
      statement =
          Some (record {
            label = label;
            body =
                bodies.Instruction (record { operation = 65; form = record { least = 0; most = 2; d = d.Never } })
                (record { a = a; b = b; d = None; is_whole = true });
          });
    }

-- a symbol as the label of a line, and as an area literal
labelled : List ℕ → LabelField
labelled text = labels.Label (record { text = text })

area : List ℕ → ℕ → OperandField
area text places =
    fields.Operand (operands.Literal (literals.Area (record { label = record { text = text }; places = places })))

end_line : Line
end_line =
    record {
      bytes = bytes.Good;
      statement =
          Some (record {
            label = labels.Absent;
            body = bodies.WideEnd (record { a = fields.Absent; b = fields.Absent; d = None; is_whole = true });
          });
    }

-- the same area twice is one
one_area : line_faults Ibm (line_of labels.Absent (area (codes "TAG   ") 3) (area (codes "TAG   ") 3)
    ∷ line_of labels.Absent (area (codes "TAG   ") 3) fields.Absent ∷ end_line ∷ []) ≡ []
unfolding line_of area end_line
one_area = refl

-- one of another length isn't, nor one whose symbol is a label above it or its own line's
another_length : line_faults Ibm (line_of labels.Absent (area (codes "TAG   ") 3) (area (codes "TAG   ") 4) ∷ end_line ∷ [])
    ≡ fault 1 kinds.DoubleLabel
unfolding line_of area end_line fault
another_length = refl

a_label_above : line_faults Ibm (line_of (labelled (codes "TAG   ")) fields.Absent fields.Absent
    ∷ line_of labels.Absent fields.Absent (area (codes "TAG   ") 3) ∷ end_line ∷ []) ≡ fault 2 kinds.DoubleLabel
unfolding line_of area end_line fault labelled
a_label_above = refl

its_own_label : line_faults Ibm (line_of (labelled (codes "TAG   ")) (area (codes "TAG   ") 3) fields.Absent ∷ end_line ∷ [])
    ≡ fault 1 kinds.DoubleLabel
unfolding line_of area end_line fault labelled
its_own_label = refl

-- a label below it is at the label
a_label_below : line_faults Ibm (line_of labels.Absent (area (codes "TAG   ") 3) fields.Absent
    ∷ line_of (labelled (codes "TAG   ")) fields.Absent fields.Absent ∷ end_line ∷ []) ≡ fault 2 kinds.DoubleLabel
unfolding line_of area end_line fault labelled
a_label_below = refl
