-- Symbols below SFX, and X1 to X3 as symbols (Autocoder, "Suffix", "Index Registers"; that these have no suffix own).
use Rattle.std.specs.Prelude.{ℕ, ◌==◌, Bool, false, not, ◌&&◌, ◌||◌, if◌then◌else◌, slice_index, slice_set, Option}
use Rattle.std.specs.Prelude.{None, Some, codes}
use Rattle.std.specs.Str.{bytes_eq}
use Rattle.autocoder_statements.specs.Punctuation.{blank}
use Rattle.autocoder_statements.specs.declared.address.Address.{Address}
use Rattle.autocoder_statements.specs.declared.address.Base.{Base}
use Rattle.autocoder_statements.specs.declared.address.Base.TheVariants as bases
use Rattle.autocoder_statements.specs.declared.label.Label.{Label}
use Rattle.autocoder_statements.specs.declared.label.LabelField.{LabelField}
use Rattle.autocoder_statements.specs.declared.label.LabelField.TheVariants as labels
use Rattle.autocoder_statements.specs.declared.literal.Literal.{Literal}
use Rattle.autocoder_statements.specs.declared.literal.Literal.TheVariants as literals
use Rattle.autocoder_statements.specs.declared.operands.Operand.{Operand}
use Rattle.autocoder_statements.specs.declared.operands.Operand.TheVariants as operands
use Rattle.autocoder_statements.specs.declared.operands.OperandField.{OperandField}
use Rattle.autocoder_statements.specs.declared.operands.OperandField.TheVariants as fields
use Rattle.autocoder_statements.specs.declared.operands.Operands.{Operands}
use Rattle.autocoder_statements.specs.declared.symbols.Registers.{Registers}
use Rattle.autocoder_statements.specs.declared.symbols.SymbolRule.{SymbolRule}

-- the name of an index register as a symbol
abbrev pub register_name : ℕ → Label
register_name number =
    record { text = if number == 1 then codes "X1    " else if number == 2 then codes "X2    " else codes "X3    " }

abbrev pub names_register : ℕ → Label → Bool
names_register number label = bytes_eq label.text (register_name number).text

-- X1 to X3
abbrev pub is_register : Label → Bool
is_register label = names_register 1 label || names_register 2 label || names_register 3 label

-- a symbol of fewer than six characters has the suffix in the place of the sixth; X1 to X3 have none
abbrev pub suffixed : Option ℕ → Label → Label
suffixed None label = label
suffixed (Some suffix) label =
    if not (is_register label) && (slice_index label.text 5 == blank)
    then record { text = slice_set label.text 5 suffix }
    else label

-- no line has X1 to X3 as its label
abbrev pub no_registers : Registers
no_registers = record { one = false; two = false; three = false }

-- some line has one of them as its label
abbrev pub is_any : Registers → Bool
is_any this = this.one || this.two || this.three

-- some line has the name of this index register as its label
abbrev pub is_labelled : Registers → ℕ → Bool
is_labelled this number = if number == 1 then this.one else if number == 2 then this.two else this.three

-- X1 to X3 are index registers if they aren't labels
abbrev pub base_under : SymbolRule → Base → Base
base_under rule (bases.Number number) = bases.Number number
base_under rule (bases.Symbol label) = bases.Symbol (suffixed rule.suffix label)
base_under rule bases.Here = bases.Here
base_under rule (bases.Register number) =
    if is_labelled rule.registers number then bases.Symbol (register_name number) else bases.Register number
base_under rule bases.NextHundred = bases.NextHundred

abbrev pub address_under : SymbolRule → Address → Address
address_under rule this =
    record { base = base_under rule this.base; adjustment = this.adjustment; index = this.index }

abbrev pub literal_under : SymbolRule → Literal → Literal
literal_under rule (literals.Constant constant) = literals.Constant constant
literal_under rule (literals.Address this) =
    literals.Address (record { is_negative = this.is_negative; address = address_under rule this.address })
literal_under rule (literals.Area this) =
    literals.Area (record { label = suffixed rule.suffix this.label; places = this.places })

abbrev pub operand_under : SymbolRule → Operand → Operand
operand_under rule (operands.Address address) = operands.Address (address_under rule address)
operand_under rule (operands.Literal literal) = operands.Literal (literal_under rule literal)
operand_under rule (operands.Unit unit) = operands.Unit unit

abbrev pub field_under : SymbolRule → OperandField → OperandField
field_under rule fields.Absent = fields.Absent
field_under rule fields.Malformed = fields.Malformed
field_under rule (fields.Operand operand) = fields.Operand (operand_under rule operand)

abbrev pub operands_under : SymbolRule → Operands → Operands
operands_under rule this =
    record { a = field_under rule this.a; b = field_under rule this.b; d = this.d; is_whole = this.is_whole }

abbrev pub label_under : SymbolRule → LabelField → LabelField
label_under rule labels.Absent = labels.Absent
label_under rule labels.Malformed = labels.Malformed
label_under rule (labels.Label label) = labels.Label (suffixed rule.suffix label)
