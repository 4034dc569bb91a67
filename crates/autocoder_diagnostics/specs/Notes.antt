-- What the lines of a source say of its labels, and which indicators they can set (own).
use Rattle.std.specs.Prelude.{ℕ, Bool, false, ◌||◌, if◌then◌else◌, List, ◌==◌, true, ◌&&◌, Option, Some, None}
use Rattle.std.specs.Option.{option_map_or}
use Rattle.std.specs.List.{list_any}
use Rattle.std.specs.Str.{byte}
use Rattle.autocoder_statements.specs.Description.{describe, operands_in}
use Rattle.autocoder_statements.specs.Operands.{count_of}
use Rattle.autocoder_statements.specs.Statement.{well_formed}
use Rattle.autocoder_statements.specs.declared.label.Label.{Label}
use Rattle.autocoder_statements.specs.declared.operands.Operands.{Operands}
use Rattle.autocoder_statements.specs.declared.statement.Line.{Line}
use Rattle.autocoder_statements.specs.declared.statement.Statement.{Statement}
use Rattle.autocoder_statements.specs.declared.constant.Constant.{Constant}
use Rattle.autocoder_statements.specs.declared.constant.Constant.TheVariants as constants
use Rattle.autocoder_statements.specs.declared.description.Contents.{Contents}
use Rattle.autocoder_statements.specs.declared.description.Contents.TheVariants as contents
use Rattle.autocoder_statements.specs.declared.description.Description.{Description}
use Rattle.autocoder_statements.specs.declared.literal.Literal.{Literal}
use Rattle.autocoder_statements.specs.declared.literal.Literal.TheVariants as literals
use Rattle.autocoder_statements.specs.declared.mnemonic.Instruction.{Instruction}
use Rattle.autocoder_statements.specs.declared.operands.Operand.TheVariants as operands
use Rattle.autocoder_statements.specs.declared.operands.OperandField.{OperandField}
use Rattle.autocoder_statements.specs.declared.operands.OperandField.TheVariants as fields
use Rattle.autocoder_statements.specs.declared.statement.Chain.{Chain}
use Rattle.autocoder_symbols.specs.Symbols.{has_label}
use Rattle.autocoder_diagnostics.specs.FirstFault.{symbol_in, symbol_in_base}

-- one of the operands is counted from a label
abbrev pub names : Label → Operands → Bool
names label of = has_label label (symbol_in of.a) || has_label label (symbol_in of.b)

abbrev pub is_named_in : Label → Line → Bool
is_named_in label line =
    option_map_or (λ (statement : Statement). names label (operands_in (describe statement.body).addressing))
    line.statement false

-- digits without a sign
abbrev pub is_unsigned : Option Constant → Bool
is_unsigned None = false
is_unsigned (Some (constants.Text text)) = false
is_unsigned (Some (constants.Number digits)) = true
is_unsigned (Some (constants.Plus digits)) = false
is_unsigned (Some (constants.Minus digits)) = false
is_unsigned (Some (constants.Blanks count)) = false

-- a DCW of such digits
abbrev pub is_number : Contents → Bool
is_number contents.Nothing = false
is_number (contents.Instruction instruction of) = false
is_number (contents.MarkedConstant constant) = is_unsigned constant
is_number (contents.Constant constant) = false
is_number (contents.Space places) = false
is_number (contents.Areas areas) = false
is_number (contents.Chain chain) = false
is_number (contents.AddressConstant constant) = false

-- the label of a number without a sign
abbrev pub number_label : Statement → Option Label
number_label this = if is_number (describe this.body).contents then well_formed this.label else None

abbrev pub is_number_in : Label → Line → Bool
is_number_in label line =
    option_map_or (λ (this : Statement). has_label label (number_label this)) line.statement false

-- a number with a plus sign, as a literal
abbrev pub is_plus : Constant → Bool
is_plus (constants.Text text) = false
is_plus (constants.Number digits) = false
is_plus (constants.Plus digits) = true
is_plus (constants.Minus digits) = false
is_plus (constants.Blanks count) = false

abbrev pub is_plus_in : Literal → Bool
is_plus_in (literals.Constant constant) = is_plus constant
is_plus_in (literals.Address literal) = false
is_plus_in (literals.Area literal) = false

abbrev pub is_plus_literal : OperandField → Bool
is_plus_literal fields.Absent = false
is_plus_literal fields.Malformed = false
is_plus_literal (fields.Operand (operands.Address address)) = false
is_plus_literal (fields.Operand (operands.Literal literal)) = is_plus_in literal
is_plus_literal (fields.Operand (operands.Unit unit)) = false

-- an instruction that brings no sign into its fields: a comparison, a branch, and a sum with a literal that has a plus
-- sign, since a field without a sign counts as plus and stays as it is
abbrev pub brings_no_sign : Instruction → Operands → Bool
brings_no_sign this of =
    (this.operation == byte "C") || (this.operation == byte "B") || (this.operation == byte "V")
    || ((this.operation == byte "A") && is_plus_literal of.a)

-- the field that an instruction changes, if it changes one: the last that it names
abbrev pub last_field : Operands → OperandField
last_field of = if count_of of.b == 0 then of.a else of.b

-- the symbol of a field into which a statement may bring a sign; EQU may give it a second name, ORG may place something
-- else there, and instructions may take an address constant for an address
abbrev pub signed_symbol : Contents → Operands → Option Label
signed_symbol contents.Nothing of = symbol_in of.a
signed_symbol (contents.Instruction instruction these) of =
    if brings_no_sign instruction these then None else symbol_in (last_field these)
signed_symbol (contents.MarkedConstant constant) of = None
signed_symbol (contents.Constant constant) of = None
signed_symbol (contents.Space places) of = None
signed_symbol (contents.Areas areas) of = None
signed_symbol (contents.Chain chain) of = None
signed_symbol (contents.AddressConstant constant) of = symbol_in of.a

abbrev pub signed_label : Description → Option Label
signed_label row = signed_symbol row.contents (operands_in row.addressing)

-- the symbol of an address that an instruction may take from a literal
abbrev pub addressed_in_literal : Literal → Option Label
addressed_in_literal (literals.Constant constant) = None
addressed_in_literal (literals.Address literal) = symbol_in_base literal.address.base
addressed_in_literal (literals.Area literal) = None

abbrev pub addressed_in : OperandField → Option Label
addressed_in fields.Absent = None
addressed_in fields.Malformed = None
addressed_in (fields.Operand (operands.Address address)) = None
addressed_in (fields.Operand (operands.Literal literal)) = addressed_in_literal literal
addressed_in (fields.Operand (operands.Unit unit)) = None

-- the address of the field with this label is a literal
abbrev pub is_addressed : Label → Operands → Bool
is_addressed label of = has_label label (addressed_in of.a) || has_label label (addressed_in of.b)

-- a statement may bring a sign into the field with this label
abbrev pub signs : Label → Description → Bool
signs label row = has_label label (signed_label row) || is_addressed label (operands_in row.addressing)

abbrev pub is_signed_in : Label → Line → Bool
is_signed_in label line =
    option_map_or (λ (this : Statement). signs label (describe this.body)) line.statement false

-- a chain of instructions of this operation
abbrev pub is_chain_of : ℕ → Chain → Bool
is_chain_of operation chain = option_map_or (λ each. each == operation) chain.operation false

-- an instruction of this operation, or a chain of such instructions
abbrev pub is_operation : ℕ → Contents → Bool
is_operation operation contents.Nothing = false
is_operation operation (contents.Instruction instruction of) = instruction.operation == operation
is_operation operation (contents.MarkedConstant constant) = false
is_operation operation (contents.Constant constant) = false
is_operation operation (contents.Space places) = false
is_operation operation (contents.Areas areas) = false
is_operation operation (contents.Chain chain) = is_chain_of operation chain
is_operation operation (contents.AddressConstant constant) = false

abbrev pub has_operation : ℕ → Line → Bool
has_operation operation line =
    option_map_or (λ (this : Statement). is_operation operation (describe this.body).contents) line.statement false

-- what the lines of a source say of its labels, and which indicators they can set
pub record Known : Type 0 where
  pub is_named : Label → Bool
  pub is_number : Label → Bool
  pub is_signed : Label → Bool
  pub compares : Bool
  pub adds : Bool

-- an operand names the label; the entry is one that END names
abbrev pub is_named : List Line → Label → Bool
is_named lines label = list_any (is_named_in label) lines

-- a number without a sign has the label
abbrev pub is_number_of : List Line → Label → Bool
is_number_of lines label = list_any (is_number_in label) lines

-- a line may bring a sign into the field that the label names
abbrev pub is_signed : List Line → Label → Bool
is_signed lines label = list_any (is_signed_in label) lines

-- C sets the indicators of a comparison, A and S that of an overflow
abbrev pub known_in : List Line → Known
known_in lines =
    record {
      is_named = is_named lines;
      is_number = is_number_of lines;
      is_signed = is_signed lines;
      compares = list_any (has_operation (byte "C")) lines;
      adds =
          list_any (has_operation (byte "A")) lines || list_any (has_operation (byte "S")) lines;
    }
