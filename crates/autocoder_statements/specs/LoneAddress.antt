-- Operands that are one address, and what it says (Autocoder, "Assembler Control"; an asterisk in the wider language
-- C24-3258 and J24-1434).
use Rattle.std.specs.Prelude.{Bool, true, false, not, ◌&&◌, ◌||◌, if◌then◌else◌, Option, None, Some, is_none, is_some}
use Rattle.std.specs.Option.{option_map_or}
use Rattle.autocoder_statements.specs.declared.address.Base.{Base}
use Rattle.autocoder_statements.specs.declared.address.Base.TheVariants as bases
use Rattle.autocoder_statements.specs.declared.operands.Operand.{Operand}
use Rattle.autocoder_statements.specs.declared.operands.Operand.TheVariants as operands
use Rattle.autocoder_statements.specs.declared.operands.OperandField.{OperandField}
use Rattle.autocoder_statements.specs.declared.operands.OperandField.TheVariants as fields
use Rattle.autocoder_statements.specs.declared.operands.Operands.{Operands}

abbrev pub is_absent : OperandField → Bool
is_absent fields.Absent = true
is_absent fields.Malformed = false
is_absent (fields.Operand operand) = false

-- an address, as against a literal and a unit
abbrev pub is_address : OperandField → Bool
is_address fields.Absent = false
is_address fields.Malformed = false
is_address (fields.Operand (operands.Address address)) = true
is_address (fields.Operand (operands.Literal literal)) = false
is_address (fields.Operand (operands.Unit unit)) = false

abbrev pub is_unit : OperandField → Bool
is_unit fields.Absent = false
is_unit fields.Malformed = false
is_unit (fields.Operand (operands.Address address)) = false
is_unit (fields.Operand (operands.Literal literal)) = false
is_unit (fields.Operand (operands.Unit unit)) = true

-- the base of an address without index register
abbrev pub base_alone : Operand → Option Base
base_alone (operands.Address address) = if is_none address.index then Some address.base else None
base_alone (operands.Literal literal) = None
base_alone (operands.Unit unit) = None

abbrev pub base_in : OperandField → Option Base
base_in fields.Absent = None
base_in fields.Malformed = None
base_in (fields.Operand operand) = base_alone operand

-- the base of operands that are one such address
abbrev pub lone_base : Operands → Option Base
lone_base this = if this.is_whole then base_in this.a else None

-- an asterisk, alone or before X00
abbrev pub is_asterisk : Base → Bool
is_asterisk (bases.Number number) = false
is_asterisk (bases.Symbol label) = false
is_asterisk bases.Here = true
is_asterisk (bases.Register number) = false
is_asterisk bases.NextHundred = true

abbrev pub is_next_hundred : Base → Bool
is_next_hundred (bases.Number number) = false
is_next_hundred (bases.Symbol label) = false
is_next_hundred bases.Here = false
is_next_hundred (bases.Register number) = false
is_next_hundred bases.NextHundred = true

-- operands that are one address without asterisk and index register
abbrev pub is_value : Operands → Bool
is_value this = option_map_or (λ base. not (is_asterisk base)) (lone_base this) false

-- in the wider language an asterisk says a value too, but the next hundred is for ORG alone
abbrev pub is_wide_value : Operands → Bool
is_wide_value this = option_map_or (λ base. not (is_next_hundred base)) (lone_base this) false

abbrev pub is_wide_origin : Operands → Bool
is_wide_origin this = is_some (lone_base this)

-- ORG may have no operand
abbrev pub is_open_origin : Operands → Bool
is_open_origin this = if is_absent this.a then this.is_whole else is_wide_origin this

-- END may have no operand
abbrev pub is_wide_entry : Operands → Bool
is_wide_entry this = if is_absent this.a then this.is_whole else is_wide_value this

-- operands that are one address, with an index register or without
abbrev pub is_one_address : Operands → Bool
is_one_address this = this.is_whole && is_address this.a

-- EQU may name a unit too
abbrev pub is_wide_equal : Operands → Bool
is_wide_equal this = is_one_address this || (this.is_whole && is_unit this.a)
