-- Lines and what they say, computed.
use Rattle.std.proofs.Common.{◌≡◌, ℕ, true, false, List, [], ◌∷◌, ◌++◌, map, replicate, None, Some, pos, negsuc, refl}
use Rattle.std.specs.Prelude.{Bool, codes}
use Rattle.std.specs.Str.{byte}
use Rattle.std.specs.Option.{option_map_or}
use Rattle.bcd_1401.specs.Graphic.{graphics}
use Rattle.autocoder_statements.specs.SourceLine.{padded, columns_of}
use Rattle.autocoder_statements.specs.Mnemonic.{instructions, assembler_operations}
use Rattle.autocoder_statements.specs.Constant.{text_of}
use Rattle.autocoder_statements.specs.Statement.{line_of, has_bad_label, has_bad_operands, is_end, label_of_line}
use Rattle.autocoder_statements.specs.Operands.{as_literal}
use Rattle.autocoder_statements.specs.declared.label.Label.{Label}
use Rattle.autocoder_statements.specs.declared.label.LabelField.{LabelField}
use Rattle.autocoder_statements.specs.declared.label.LabelField.TheVariants as labels
use Rattle.autocoder_statements.specs.declared.mnemonic.DCharacter.TheVariants as d
use Rattle.autocoder_statements.specs.declared.constant.Constant.TheVariants as constants
use Rattle.autocoder_statements.specs.declared.address.Base.TheVariants as bases
use Rattle.autocoder_statements.specs.declared.operands.Operand.TheVariants as operands
use Rattle.autocoder_statements.specs.declared.operands.OperandField.{OperandField}
use Rattle.autocoder_statements.specs.declared.operands.OperandField.TheVariants as fields
use Rattle.autocoder_statements.specs.declared.operands.Operands.{Operands}
use Rattle.autocoder_statements.specs.declared.statement.Body.{Body}
use Rattle.autocoder_statements.specs.declared.statement.Body.TheVariants as bodies
use Rattle.autocoder_statements.specs.declared.statement.LineCheck.TheVariants as bytes
use Rattle.autocoder_statements.specs.declared.statement.Statement.{Statement}
use Rattle.autocoder_statements.specs.declared.statement.Line.{Line}

-- what a line says, with all tables open
says : List ℕ → Line
unfolding columns_of instructions assembler_operations graphics
says text = line_of text

abbrev good : LabelField → Body → Line
good label body = record { bytes = bytes.Good; statement = Some (record { label = label; body = body }) }

abbrev named : List ℕ → Label
named word = record { text = padded 6 word }

abbrev number : ℕ → OperandField
number n = fields.Operand (operands.Address (record { base = bases.Number n; adjustment = pos 0; index = None }))

abbrev symbol : List ℕ → OperandField
symbol word =
    fields.Operand (operands.Address (record { base = bases.Symbol (named word); adjustment = pos 0; index = None }))

abbrev with : OperandField → OperandField → Operands
with a b = record { a = a; b = b; d = None; is_whole = true }

an_origin : says (codes "               ORG  400")
    ≡ good labels.Absent (bodies.Origin (with (number 400) fields.Absent))
unfolding says
an_origin = refl

an_instruction_with_a_literal : says (codes "     START     ZA   +5,TOTAL")
    ≡ good (labels.Label (named (codes "START")))
    (bodies.Instruction (record { operation = byte "?"; form = record { least = 0; most = 2; d = d.Never } })
    (with (fields.Operand (as_literal (constants.Plus (text_of (codes "5"))))) (symbol (codes "TOTAL"))))
unfolding says
an_instruction_with_a_literal = refl

an_address_by_the_instruction_itself : says (codes "               H    *-3")
    ≡ good labels.Absent (bodies.Instruction
    (record { operation = byte "."; form = record { least = 0; most = 1; d = d.Never } })
    (with (fields.Operand
    (operands.Address (record { base = bases.Here; adjustment = negsuc 2; index = None }))) fields.Absent))
unfolding says
an_address_by_the_instruction_itself = refl

a_constant_has_a_word_mark_or_none : map says (codes "     TOTAL     DCW  #3" ∷ codes "     NAME      DC   @HI@ SAYS HI"
    ∷ [])
    ≡ good (labels.Label (named (codes "TOTAL"))) (bodies.MarkedConstant (Some (constants.Blanks 3)))
    ∷ good (labels.Label (named (codes "NAME"))) (bodies.Constant (Some (constants.Text (text_of (codes "HI"))))) ∷ []
unfolding says
a_constant_has_a_word_mark_or_none = refl

areas_and_a_field_of_them : map says (codes "     REC       DA   2X4" ∷ codes "     KEY            3,4" ∷ [])
    ≡ good (labels.Label (named (codes "REC")))
    (bodies.Areas (Some (record { count = 2; length = 4; has_group_mark = false; has_record_marks = false; index = 0; counts_from_zero = false })))
    ∷ good (labels.Label (named (codes "KEY")))
    (bodies.Field (Some (record { first = 3; last = 4; is_marked = true }))) ∷ []
unfolding says
areas_and_a_field_of_them = refl

comments_say_nothing : map says (codes "     * ONE LITERAL, TWO USES" ∷ [] ∷ [])
    ≡ replicate 2 (record { bytes = bytes.Good; statement = None })
unfolding says
comments_say_nothing = refl

too_long_before_all_else : map (λ text. (says text).bytes) (replicate 81 32 ∷ (replicate 80 32 ++ 7 ∷ [])
    ∷ codes "               a" ∷ replicate 80 32 ∷ [])
    ≡ bytes.Long ∷ bytes.Long ∷ bytes.Foreign ∷ bytes.Good ∷ []
unfolding says
too_long_before_all_else = refl

-- whether a line has a bad label, and bad operands
faults : List ℕ → Bool × Bool
unfolding says
faults text = (
  option_map_or has_bad_label (says text).statement false,
  option_map_or (λ (statement : Statement). has_bad_operands statement.body) (says text).statement false,
)

labels_that_are_no_labels : map faults (codes "     X1        DCW  #1" ∷ codes "     ABCDEFG   NOP"
    ∷ codes "               EQU  5" ∷ codes "     A         ORG  5" ∷ codes "     A         EX   5"
    ∷ codes "     A         END  5" ∷ [])
    ≡ replicate 6 (true, false)
unfolding faults
labels_that_are_no_labels = refl

operands_that_are_no_operands : map faults (codes "               DS   0" ∷ codes "               DS   16000"
    ∷ codes "               DS   1,2" ∷ codes "               DA   0X4" ∷ codes "               DA   2X1000"
    ∷ codes "               DA   24"
    ∷ codes "     F              4,3" ∷ codes "     F              3" ∷ codes "     F              1,2,3"
    ∷ codes "               NOP  A" ∷ codes "               DCW  LABEL" ∷ codes "               BCE  1,2"
    ∷ codes "     A         EQU  *"
    ∷ codes "               ORG  1+X1" ∷ codes "               END  +5" ∷ codes "               EX   1,2"
    ∷ codes "               END" ∷ [])
    ≡ replicate 17 (false, true)
unfolding faults
operands_that_are_no_operands = refl

these_are_good : map faults (codes "               DS   0015999" ∷ codes "               DA   99X999"
    ∷ codes "     F              999,999" ∷ codes "               NOP   A" ∷ codes "     A         EQU  B-20"
    ∷ codes "               END  1" ∷ codes "               CC" ∷ codes "               B    1,  X" ∷ [])
    ≡ replicate 8 (false, false)
unfolding faults
these_are_good = refl

an_unknown_operation_with_a_label : (says (codes "     A         MU   5"))
    ≡ good (labels.Label (named (codes "A"))) bodies.Unknown
unfolding says
an_unknown_operation_with_a_label = refl

-- the end of a source is known by its operation, and a label by its columns, whatever else is wrong
the_end_and_labels_of_bad_lines : map (λ text. is_end (says text)) ((codes "     a         END  ~" ++ replicate 80 32)
    ∷ codes "     *         END  1" ∷ codes "               ENDS 1" ∷ []) ≡ true ∷ false ∷ false ∷ []
unfolding says
the_end_and_labels_of_bad_lines = refl

a_label_beside_a_fault : label_of_line (says (codes "     A         ~~~")) ≡ Some (named (codes "A"))
unfolding says
a_label_beside_a_fault = refl
