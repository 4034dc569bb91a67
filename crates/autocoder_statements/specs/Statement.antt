-- What a line says, without its neighbours (Autocoder, "Coding Sheet", "Declarative Operations", "Assembler Control").
use Rattle.std.specs.Prelude.{ℕ, ◌==◌, nat_lt, Bool, true, false, not, ◌&&◌, if◌then◌else◌, List, length, take, drop}
use Rattle.std.specs.Prelude.{Option, None, Some}
use Rattle.std.specs.Option.{option_map, option_and_then}
use Rattle.std.specs.List.{position_or_len}
use Rattle.autocoder_statements.specs.SourceLine.{columns_of, columns_in, is_comment, has_foreign_bytes}
use Rattle.autocoder_statements.specs.Label.{label_in}
use Rattle.autocoder_statements.specs.Mnemonic.{operation_of}
use Rattle.autocoder_statements.specs.Numbers.{number_between}
use Rattle.autocoder_statements.specs.Constant.{constant_of}
use Rattle.autocoder_statements.specs.Operands.{operand_in, beyond_operand, lone_operand, operand_beyond_comma}
use Rattle.autocoder_statements.specs.Operands.{operands_of}
use Rattle.autocoder_statements.specs.Description.{describe, is_required, is_forbidden, is_of_field, is_entry}
use Rattle.autocoder_statements.specs.Punctuation.{letter_x}
use Rattle.autocoder_statements.specs.declared.label.Label.{Label}
use Rattle.autocoder_statements.specs.declared.label.LabelField.{LabelField}
use Rattle.autocoder_statements.specs.declared.label.LabelField.TheVariants as labels
use Rattle.autocoder_statements.specs.declared.language.Language.TheVariants as languages
use Rattle.autocoder_statements.specs.declared.mnemonic.DCharacter.TheVariants as d
use Rattle.autocoder_statements.specs.declared.mnemonic.Form.{Form}
use Rattle.autocoder_statements.specs.declared.mnemonic.Operation.{Operation}
use Rattle.autocoder_statements.specs.declared.mnemonic.Operation.TheVariants as operations
use Rattle.autocoder_statements.specs.declared.statement.Areas.{Areas}
use Rattle.autocoder_statements.specs.declared.statement.Span.{Span}
use Rattle.autocoder_statements.specs.declared.statement.Body.{Body}
use Rattle.autocoder_statements.specs.declared.statement.Body.TheVariants as bodies
use Rattle.autocoder_statements.specs.declared.statement.LineCheck.{LineCheck}
use Rattle.autocoder_statements.specs.declared.statement.LineCheck.TheVariants as bytes
use Rattle.autocoder_statements.specs.declared.statement.Statement.{Statement}
use Rattle.autocoder_statements.specs.declared.statement.Line.{Line}

-- one address, without a d-character
abbrev pub one_address : Form
one_address = record { least = 1; most = 1; d = d.Never }

abbrev pub is_x : ℕ → Bool
is_x byte = byte == letter_x

-- the number of areas, an X, and the length of each
abbrev pub areas_of : List ℕ → Option Areas
areas_of word =
    let n = position_or_len is_x word in
    option_and_then
    (λ count.
    option_map (λ length. record {
      count = count;
      length = length;
      has_group_mark = false;
      has_record_marks = false;
      index = 0;
      counts_from_zero = false;
    })
    (number_between 1 999 (drop 1 (drop n word))))
    (number_between 1 99 (take n word))

-- the first place of a field and its last, with a comma between them
abbrev pub span_of : List ℕ → Option Span
span_of columns =
    option_and_then
    (λ first.
    option_map (λ last. record { first = first; last = last; is_marked = true })
    (number_between first 999 (operand_beyond_comma (beyond_operand columns))))
    (number_between 1 999 (operand_in columns))

-- the most places that DS keeps
abbrev pub most_places : ℕ
most_places = 15999

-- what an operation with these columns for its operands asks for in the plain language
abbrev pub body_with : Operation → List ℕ → Body
body_with (operations.Instruction instruction) columns =
    bodies.Instruction instruction (operands_of languages.Plain instruction.form columns)
body_with operations.MarkedConstant columns = bodies.MarkedConstant (constant_of (lone_operand columns))
body_with operations.Constant columns = bodies.Constant (constant_of (lone_operand columns))
body_with operations.Space columns = bodies.Space (number_between 1 most_places (lone_operand columns))
body_with operations.Areas columns = bodies.Areas (areas_of (lone_operand columns))
body_with operations.Field columns = bodies.Field (span_of columns)
body_with operations.Equate columns = bodies.Equate (operands_of languages.Plain one_address columns)
body_with operations.Origin columns = bodies.Origin (operands_of languages.Plain one_address columns)
body_with operations.Execute columns = bodies.Execute (operands_of languages.Plain one_address columns)
body_with operations.End columns = bodies.End (operands_of languages.Plain one_address columns)

abbrev pub body_by : Option Operation → List ℕ → Body
body_by None columns = bodies.Unknown
body_by (Some operation) columns = body_with operation columns

-- what columns 16 to 20 and columns 21 to 72 ask for in the plain language
abbrev pub body_of : List ℕ → List ℕ → Body
body_of operation columns = body_by (operation_of operation) columns

-- what a line of the plain language says that is no comment
abbrev pub statement_of : List ℕ → Statement
statement_of columns =
    record {
      label = label_in languages.Plain (columns_in 6 15 columns);
      body = body_of (columns_in 16 20 columns) (columns_in 21 72 columns);
    }

-- whether a line of this length with these columns can be a line
abbrev pub bytes_with : ℕ → List ℕ → LineCheck
bytes_with len columns =
    if nat_lt 80 len then bytes.Long else if has_foreign_bytes columns then bytes.Foreign else bytes.Good

-- what a line with these columns says
abbrev pub line_with : ℕ → List ℕ → Line
line_with len columns =
    record {
      bytes = bytes_with len columns;
      statement = if is_comment columns then None
          else Some (statement_of columns);
    }

-- what a line says by itself
abbrev pub line_of : List ℕ → Line
line_of line = line_with (length line) (columns_of line)

-- operands that aren't as the operation asks, whatever the other lines are
abbrev pub has_bad_operands : Body → Bool
has_bad_operands body = not (describe body).is_well_formed

-- EQU needs a label
abbrev pub needs_label : Body → Bool
needs_label body = is_required (describe body).label

-- ORG, EX and END have none
abbrev pub takes_label : Body → Bool
takes_label body = not (is_forbidden (describe body).label)

abbrev pub is_bad_label : LabelField → Body → Bool
is_bad_label labels.Absent body = needs_label body
is_bad_label labels.Malformed body = true
is_bad_label (labels.Label label) body = not (takes_label body)

abbrev pub has_bad_label : Statement → Bool
has_bad_label this = is_bad_label this.label this.body

abbrev pub is_unlabelled : LabelField → Bool
is_unlabelled labels.Absent = true
is_unlabelled labels.Malformed = false
is_unlabelled (labels.Label label) = false

-- no label, and a field of areas needs one
abbrev pub lacks_field_label : Statement → Bool
lacks_field_label this = is_unlabelled this.label && is_of_field (describe this.body).label

-- a well-formed label
abbrev pub well_formed : LabelField → Option Label
well_formed labels.Absent = None
well_formed labels.Malformed = None
well_formed (labels.Label label) = Some label

-- the label of a line, whatever else is wrong with it
abbrev pub label_of_line : Line → Option Label
label_of_line this = option_and_then (λ (statement : Statement). well_formed statement.label) this.statement

abbrev pub is_end_body : Body → Bool
is_end_body body = is_entry (describe body).addressing

abbrev pub is_end_statement : Option Statement → Bool
is_end_statement None = false
is_end_statement (Some statement) = is_end_body statement.body

-- whether the operation of a line is END
abbrev pub is_end : Line → Bool
is_end this = is_end_statement this.statement
